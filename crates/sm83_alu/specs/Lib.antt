pub mod Flags
pub mod Arithmetic
pub mod Bits
pub mod Decimal
