pub mod Recordings
pub mod Stepping
pub mod BothSaved
pub mod Passing
pub mod GoingOn
pub mod TakenUp
pub mod WholePlays
