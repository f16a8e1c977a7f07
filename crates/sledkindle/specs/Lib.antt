pub mod Exports
pub mod Promises
pub mod Proofs
