pub mod LoadLines
pub mod LatencyLines
pub mod DeliveryLines
pub mod Report
pub mod Found
