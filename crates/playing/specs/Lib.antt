pub mod Lines
pub mod Report
pub mod Played
pub mod Going
pub mod Making
