pub mod FrameLaws
pub mod Between
pub mod Examples
pub mod Groups
pub mod Streaks
pub mod WordFaults
