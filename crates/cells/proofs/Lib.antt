pub mod Lent
pub mod Same
