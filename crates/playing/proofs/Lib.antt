pub mod PlayLaws
pub mod MoveLaws
pub mod ReportLaws
pub mod Telling
pub mod Stops
pub mod Making
mod Steps
pub mod Going
pub mod Wholes
