pub mod Calls
pub mod Format
pub mod Growing
pub mod Promises
pub mod Recorded
pub mod Sizes
pub mod Accessors
-- what only the code needs
pub mod Keeping
