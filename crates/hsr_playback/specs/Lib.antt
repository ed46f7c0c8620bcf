pub mod Passages
pub mod Taken
pub mod Own
pub mod Known
pub mod Asked
pub mod Answers
pub mod Letting
pub mod Playing
