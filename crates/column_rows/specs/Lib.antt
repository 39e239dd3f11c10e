pub mod Laid
pub mod Statuses
