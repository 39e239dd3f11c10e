pub mod Sides
pub mod OneTaking
