pub mod Lists
pub mod Numbers
pub mod Refusals
pub mod Contents
pub mod Bounds
pub mod Writings
pub mod Law
