pub mod Origins
pub mod Parts
pub mod Lines
pub mod Words
pub mod Verdicts
pub mod Occasions
pub mod Ends
