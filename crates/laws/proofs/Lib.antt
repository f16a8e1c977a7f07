pub mod WellRead
