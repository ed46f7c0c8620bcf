pub mod Delays
pub mod Latencies
pub mod Kept
pub mod Taken
