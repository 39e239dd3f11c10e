pub mod Numbers
pub mod Damages
pub mod Slips
pub mod Grammar
pub mod Commands
pub mod Parsing
pub mod Forms
pub mod Laws
