pub mod Tables
pub mod Judge
