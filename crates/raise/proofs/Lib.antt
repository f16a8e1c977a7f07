-- What steps of raising do in sequence. The check of a function finds these by itself; they stand as theorems.
pub mod Steps
