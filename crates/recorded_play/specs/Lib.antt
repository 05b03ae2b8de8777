pub mod Steps
pub mod Whole
-- what only the code needs
pub mod CatchingUp
pub mod GoingOn
