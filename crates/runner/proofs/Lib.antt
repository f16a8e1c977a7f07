-- The laws that the proofs cite.
pub mod Parts
pub mod Places
pub mod Whole
pub mod Calls
