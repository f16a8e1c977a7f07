-- What the steps of the reading mean, what the table of types holds, and that the contracts leave no choice.
pub mod Steps
pub mod Tables
pub mod One
