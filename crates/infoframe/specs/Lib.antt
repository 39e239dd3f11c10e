pub mod Fields
pub mod Frames
pub mod Written
pub mod Laws
pub mod Bytes
