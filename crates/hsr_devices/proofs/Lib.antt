mod Summing
mod Hearing
mod Needing
mod Telling
mod Octets
