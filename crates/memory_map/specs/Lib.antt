pub mod Map
pub mod Joypad
pub mod State
pub mod Bus
pub mod BusRules
pub mod Ticks
pub mod Stores
pub mod Laws
pub mod CopyLaws
pub mod Quiet
pub mod Lasting
-- what only the code needs
pub mod LateTimer
pub mod LastingFor
pub mod Invariant
