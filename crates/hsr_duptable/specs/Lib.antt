pub mod Key
pub mod Notes
pub mod Buckets
pub mod Chains
pub mod Table
pub mod Log
