-- What the tables of a file are fit for. The check of a function finds it by itself; it stands as a theorem.
pub mod Fit
