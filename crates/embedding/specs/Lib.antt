pub mod Calls
pub mod Games
pub mod HostDevices
pub mod Orders
pub mod States
