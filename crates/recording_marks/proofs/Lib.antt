pub mod Bytes
pub mod Hashed
