pub mod Routes
pub mod Search
pub mod Networks
pub mod Addressed
pub mod Numbered
pub mod Started
pub mod Spread
