-- What the contracts cite.
pub mod Whole
