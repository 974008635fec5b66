pub mod Walking
pub mod Fields
pub mod Counting
pub mod Appending
pub mod Apart
pub mod Same
pub mod Standing
pub mod Planned
