pub mod Quotient
pub mod Sums
pub mod Distances
pub mod Computed
pub mod Powers
pub mod Bytes
pub mod Verdicts
