pub mod Agreeing
pub mod Script
pub mod Laws
pub mod Writing
pub mod Within
pub mod Verifying
-- what only the code needs
pub mod Lines
pub mod Replayed
