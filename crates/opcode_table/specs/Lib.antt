pub mod Operands
pub mod Table
pub mod Timing
pub mod Undefined
pub mod Text
pub mod Listing
pub mod Matrix
