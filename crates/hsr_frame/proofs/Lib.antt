pub mod UpTo
pub mod Cells
pub mod Texts
pub mod Raws
pub mod Counting
mod Spelled
pub mod OneMore
