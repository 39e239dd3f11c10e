pub mod Levels
pub mod Subframes
pub mod Frames
pub mod Blocks
pub mod Laws
