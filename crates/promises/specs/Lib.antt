-- The statements.
pub mod Promises
-- Markings: the graph of demands and its least solution.
pub mod Solve
pub mod Demands
pub mod Least
-- Reading: the bytes that decide, a fifth section with no rows, files that are read, the longest.
pub mod Front
pub mod Empty
pub mod Reads
pub mod Build
pub mod Longest
-- The numbers of refusals.
pub mod Numbers
-- Runs: start values, files that stop after their commands, prefixes, reads, lent memory.
pub mod Given
pub mod Stops
pub mod Prefix
pub mod ReadSteps
pub mod Lent
-- The proofs of the statements.
pub mod Answers
pub mod Proofs
