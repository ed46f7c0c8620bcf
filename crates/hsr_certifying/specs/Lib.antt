pub mod Certifying
