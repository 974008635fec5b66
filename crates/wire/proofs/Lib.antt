pub mod Bytes
pub mod Over
pub mod Same
