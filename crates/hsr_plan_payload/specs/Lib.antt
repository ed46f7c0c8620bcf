pub mod Ber
pub mod Publishing
pub mod Payload
