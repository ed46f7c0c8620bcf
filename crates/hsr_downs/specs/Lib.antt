pub mod Changes
pub mod Drains
pub mod Downs
pub mod Switches
