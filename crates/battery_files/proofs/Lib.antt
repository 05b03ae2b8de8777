pub mod Machines
pub mod Files
