pub mod Groups
pub mod Fours
pub mod FrameText
pub mod Refusals
pub mod Reading
pub mod StreamText
pub mod Growing
pub mod Laws
