pub mod Bytes
pub mod Growing
pub mod Inputs
pub mod Sizes
