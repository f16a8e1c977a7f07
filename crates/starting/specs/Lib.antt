-- What the contracts cite.
pub mod Starting
