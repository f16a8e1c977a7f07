-- The laws that the reader's proofs cite, in plain variables.
pub mod Sections
pub mod Shapes
