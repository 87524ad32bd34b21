pub mod Spelling
pub mod Pasting
pub mod Laying
pub mod Parts
pub mod Floats
