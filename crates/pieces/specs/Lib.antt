pub mod Pieces
pub mod Reads
pub mod Code
