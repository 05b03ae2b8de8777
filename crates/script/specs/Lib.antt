pub mod Line
pub mod Script
pub mod Inputs
