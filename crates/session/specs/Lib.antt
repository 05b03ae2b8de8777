pub mod Inputs
pub mod Stands
pub mod Found
pub mod Calls
pub mod Accessors
pub mod NewGame
pub mod LookAccessors
pub mod Laws
-- what only the code needs
pub mod Beginning
pub mod Recovery
pub mod Resting
pub mod Writing
