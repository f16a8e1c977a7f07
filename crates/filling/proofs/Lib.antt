-- The laws that the proofs cite.
pub mod Accepted
pub mod Words
pub mod Table
