-- The cases that the rules are held to.
pub mod Cases
