pub mod Plain
pub mod Links
pub mod Linking
