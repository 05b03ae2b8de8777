pub mod Clock
pub mod State
pub mod Places
pub mod Writes
pub mod CartridgeState
pub mod Laws
-- what only the code needs
pub mod ClockJump
pub mod Window
pub mod Invariant
