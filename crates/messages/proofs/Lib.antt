pub mod Putting
pub mod Cleared
pub mod Records
pub mod Same
