mod Searches
mod BodyBytes
mod Notes
pub mod Marks
pub mod WrittenClock
pub mod WrittenSamples
pub mod Pairs
