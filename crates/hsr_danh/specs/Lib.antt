pub use Rattle.hsr_frame.specs.Address
pub use Rattle.hsr_frame.specs.Egress
pub use Rattle.hsr_frame.specs.Counters
pub mod Wanted
pub mod Machine
pub mod Step
pub mod Past
