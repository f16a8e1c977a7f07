pub mod Tables
pub mod Rest
pub mod Bridge
pub mod Marked
pub mod Told
pub mod Answers
