pub mod Found
pub mod Regions
