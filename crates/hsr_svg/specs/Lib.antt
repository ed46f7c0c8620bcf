pub mod Parts
pub mod Style
pub mod Elements
pub mod Spelling
