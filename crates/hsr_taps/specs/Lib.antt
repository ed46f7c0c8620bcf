pub mod Asked
pub mod Directions
pub mod Tallies
pub mod Named
pub mod Came
