pub mod Elements
pub mod Fields
pub mod Rays
pub mod Tweaks
pub mod Blocks
