pub mod Kelist
