pub mod Table
pub mod Profiles
pub mod Writing
pub mod Apart
pub mod Same
