pub mod Names
pub mod Spelled
pub mod Plays
pub mod Shown
