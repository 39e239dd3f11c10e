pub mod FrameEvent
pub mod Change
pub mod Group
pub mod State
pub mod FramesRepresent
pub mod Laws
