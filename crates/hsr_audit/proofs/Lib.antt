pub mod Lists
pub mod Certifying
pub mod Premised
pub mod Clearing
pub mod Losses
pub mod Losing
pub mod Sending
pub mod Placing
pub mod Coming
pub mod Missing
pub mod Reached
pub mod Alike
pub mod Promising
pub mod Timing
pub mod Spending
pub mod Routed
mod WorkedCut
