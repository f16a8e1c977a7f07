pub mod Types
pub mod Judging
pub mod Checking
pub mod First
