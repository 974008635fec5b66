pub mod Searching
pub mod Verdict
pub mod Common
pub mod Same
