pub mod Digests
pub mod Marks
