-- A need noted, case by case. The check of a function finds these by itself; they stand as theorems.
pub mod Needs
