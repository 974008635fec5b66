pub mod Given
pub mod Code
