pub mod Places
pub mod Looked
pub mod Clear
pub mod Flaws
