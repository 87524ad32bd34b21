pub mod Appending
pub mod Decimals
pub mod Hexadecimals
pub mod Lines
