mod Listed
mod Rising
mod Judging
mod MainOrder
mod Following
mod Keeping
pub mod Standing
