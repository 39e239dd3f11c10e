pub mod Laws
pub mod Settled
pub mod Refuted
pub mod RefutingLaws
pub mod RefutingSettled
pub mod Doubted
pub mod WholePeriods
pub mod WholeAmid
