-- What the contracts cite.
pub mod Commands
