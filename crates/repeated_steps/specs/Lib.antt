pub mod NextEvent
pub mod Laws
