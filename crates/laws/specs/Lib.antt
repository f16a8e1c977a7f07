-- Markings: equality, conversion, all DYNAMIC.
pub mod Same
pub mod Convert
pub mod Dynamic
-- Reading: what a file that earns no refusal is known to be.
pub mod WellRead
pub mod Props
pub mod Known
pub mod Formed
pub mod Needs
pub mod First
pub mod Read
-- Runs: values, stores, steps, soundness, the starting memory, units.
pub mod Values
pub mod Store
pub mod Steps
pub mod Sound
pub mod Start
pub mod Units
-- What the answers of code say.
pub mod Answers
-- What code is held to: the equations with no bound, and with the steps left out.
pub mod Depth
pub mod Forget
