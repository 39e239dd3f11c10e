pub mod Second
pub mod Starting
pub mod Ends
pub mod Calm
pub mod One
pub mod First
mod Middles
pub mod Slipping
pub mod Noticed
pub mod Fronts
pub mod Before
pub mod SlipStream
pub mod SlipExample
pub mod LocalExample
