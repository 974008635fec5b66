pub mod Giving
pub mod Same
pub mod Kept
pub mod Items
