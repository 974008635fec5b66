pub mod Digits
pub mod Texts
pub mod Lines
pub mod Passes
pub mod Whole
pub mod Longest
pub mod Same
