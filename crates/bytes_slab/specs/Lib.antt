pub mod Slabs
pub mod Capacity
