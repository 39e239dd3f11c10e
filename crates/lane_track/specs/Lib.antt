pub mod Strays
pub mod Slips
pub mod Laws
pub mod Scouts
pub mod Pairless
