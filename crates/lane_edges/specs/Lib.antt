pub mod Begins
pub mod Finders
pub mod Passing
pub mod OneFound
