pub mod Planned
pub mod Code
