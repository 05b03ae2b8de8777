pub mod Runs
pub mod Written
pub mod Entries
pub mod Sectors
pub mod Answers
pub mod Looking
pub mod ReadingBack
pub mod Replayed
pub mod Verdicts
mod NewFiles
