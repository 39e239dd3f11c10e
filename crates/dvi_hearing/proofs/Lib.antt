pub mod Hearings
pub mod Phases
pub mod Many
pub mod OneAnswer
