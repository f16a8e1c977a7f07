-- The laws that the proofs cite.
pub mod Rows
pub mod Loop
