pub mod Tlvs
pub mod Again
