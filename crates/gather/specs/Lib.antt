pub mod Gathered
pub mod Notes
pub mod Gathering
pub mod Tables
