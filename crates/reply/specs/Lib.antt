pub mod Reply
pub mod Code
