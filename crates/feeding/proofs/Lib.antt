pub mod Holding
pub mod Refusing
pub mod Feeding
pub mod Answering
pub mod Same
