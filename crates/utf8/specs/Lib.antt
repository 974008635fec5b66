pub mod Utf8
pub mod Lead
pub mod Ascii
pub mod Class
