pub mod Told
pub mod Stopping
pub mod Readings
pub mod Endings
