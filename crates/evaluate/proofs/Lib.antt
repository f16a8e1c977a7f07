-- The laws that the proofs cite.
pub mod Rules
pub mod Rows
