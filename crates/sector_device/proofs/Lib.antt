pub mod Cut
pub mod Record
pub mod Calls
mod Images
mod Files
pub mod Runs
pub mod HandedOut
pub mod FailingCalls
pub mod Looking
