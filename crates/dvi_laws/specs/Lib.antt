pub mod DviAccount
pub mod DviLaws
pub mod DviLocal
