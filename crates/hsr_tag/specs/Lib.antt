pub use Rattle.hsr_frame.specs.Address
pub use Rattle.hsr_frame.specs.Grammar
pub mod Tag
pub mod Seen
pub mod View
pub mod Spelled
pub mod Payload
