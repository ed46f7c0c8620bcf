pub mod Refusals
pub mod Endings
pub mod Roles
