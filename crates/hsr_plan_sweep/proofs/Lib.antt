mod Listing
mod Plays
mod Whole
