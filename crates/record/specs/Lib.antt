pub mod Record
pub mod Told
pub mod Entry
pub mod Laid
pub mod Shown
