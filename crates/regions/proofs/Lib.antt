pub mod Extending
pub mod Leasing
pub mod Moving
pub mod Reading
pub mod Searching
