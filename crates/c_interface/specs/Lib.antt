pub mod Clocks
pub mod Codes
pub mod Handles
pub mod Memories
