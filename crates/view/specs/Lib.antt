-- What is known of a file that was read, its rows as the view answers them, and what these rows mean.
pub mod Rows
pub mod Forms
pub mod Tags
pub mod Means
pub mod Typed
pub mod Files
