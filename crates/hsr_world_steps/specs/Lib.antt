pub mod Refusal
pub mod Refused
