mod Names
mod Meant
mod Ring
