pub mod Judging
pub mod Laid
pub mod Laying
pub mod Same
