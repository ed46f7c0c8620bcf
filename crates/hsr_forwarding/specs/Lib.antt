pub mod Arrival
pub mod Numbers
pub mod Wanted
pub mod Tables
pub mod Past
