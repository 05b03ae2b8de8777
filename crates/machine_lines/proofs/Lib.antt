pub mod Digits
pub mod Calls
pub mod Bytes
pub mod Blocks
pub mod LookLines
pub mod SlotLaws
pub mod Behind
