pub mod Octets
pub mod Patterns
pub mod Standard
