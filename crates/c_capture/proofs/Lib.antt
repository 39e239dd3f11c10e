pub mod Said
pub mod Wrote
