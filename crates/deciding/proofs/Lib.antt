pub mod Copying
pub mod Refusing
pub mod Deciding
pub mod Back
pub mod Same
