pub mod Judging
pub mod Laid
pub mod Same
