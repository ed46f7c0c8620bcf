pub mod Mapped
mod Scenes
pub mod Lines
