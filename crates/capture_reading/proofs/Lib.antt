pub mod Consumed
pub mod BlockReading
