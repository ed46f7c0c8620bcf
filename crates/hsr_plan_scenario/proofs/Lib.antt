mod Growing
mod Names
mod Orders
mod Played
mod Rising
pub mod Troubles
pub mod Whole
