pub mod Numbers
pub mod Digits
pub mod Pairs
pub mod Spelling
pub mod Parting
