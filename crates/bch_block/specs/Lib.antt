pub mod Bits
pub mod Block
pub mod Division
pub mod Repair
