pub mod Telling
pub mod Frames
pub mod Switching
pub mod Reaching
pub mod Stopping
pub mod Ending
pub mod Staying
