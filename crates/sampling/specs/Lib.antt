pub mod Counts
pub mod Tallies
pub mod Strikes
pub mod Struck
pub mod Sampled
pub mod CountLaws
