pub mod Newlines
pub mod Reading
pub mod Taking
pub mod Given
