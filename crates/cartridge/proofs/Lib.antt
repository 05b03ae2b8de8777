mod Lengths
pub mod Accepted
