pub mod Request
pub mod Code
pub mod Messages
