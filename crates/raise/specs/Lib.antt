pub mod Marks
pub mod Demands
pub mod Moves
pub mod Raising
