pub mod Accepted
pub mod Controllers
pub mod Header
pub mod Length
