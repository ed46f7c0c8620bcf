pub mod Backwards
pub mod Begun
pub mod Tapped
pub mod Heard
pub mod Plays
pub mod Copied
pub mod Jumping
