pub mod Cells
pub mod Filling
pub mod Walked
pub mod Stored
pub mod Entries
pub mod Same
