-- What the contracts cite.
pub mod Values
