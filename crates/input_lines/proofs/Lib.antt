pub mod Newlines
pub mod KnownLeft
pub mod Takings
pub mod NextLines
mod Bytes
pub mod Givings
