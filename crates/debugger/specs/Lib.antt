pub mod History
pub mod Listing
pub mod Run
pub mod Report
pub mod Registers
