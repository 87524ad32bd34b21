pub mod Pieces
pub mod Counts
pub mod Free
