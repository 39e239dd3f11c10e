pub mod Bits
pub mod Column
pub mod Cuts
pub mod Words
pub mod Taps
pub mod Lent
