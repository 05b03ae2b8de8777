pub mod Iterates
pub mod NextEvents
