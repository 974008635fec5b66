pub mod Fed
pub mod Code
