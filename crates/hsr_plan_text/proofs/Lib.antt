pub mod Lists
mod Senders
