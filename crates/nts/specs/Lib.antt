pub mod Algorithm
pub mod Refusal
