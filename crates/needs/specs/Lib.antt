-- What the contracts cite.
pub mod Typed
