pub mod Members
pub mod Choices
pub mod Entries
pub mod Words
pub mod Example
pub mod Counts
