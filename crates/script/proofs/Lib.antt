pub mod Cuts
pub mod Digits
pub mod Reading
pub mod Words
