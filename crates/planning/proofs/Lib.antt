pub mod Holding
pub mod Same
pub mod Kept
