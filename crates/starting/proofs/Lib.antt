-- The laws that the proofs cite.
pub mod Cells
pub mod Given
