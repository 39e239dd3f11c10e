pub mod Faults
pub mod Clock
pub mod Samples
pub mod Laws
