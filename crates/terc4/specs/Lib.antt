pub mod Tables
pub mod Columns
pub mod Kinds
pub mod Laws
