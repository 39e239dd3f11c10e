mod Locks
mod Looking
mod Searching
pub mod Beginning
pub mod Alignments
pub mod Growing
