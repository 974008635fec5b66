pub mod Tray
pub mod Plan
pub mod Code
