pub mod Remembering
pub mod Told
mod Finer
pub mod OfDanh
pub mod OfRedBox
pub mod OfQuadBox
pub mod OfStation
pub mod Refused
pub mod Replayed
pub mod Holding
pub mod SameOutcome
mod Spelled
