pub mod Readers
pub mod Makers
pub mod Taps
pub mod Statuses
pub mod Listed
pub mod Made
