pub mod Negotiation
pub mod Code
