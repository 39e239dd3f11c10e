pub mod FrameLaws
pub mod PacketLaws
pub mod ListingLaws
pub mod Said
pub mod Taken
pub mod LinkLaws
pub mod Rasters
pub mod Exact
