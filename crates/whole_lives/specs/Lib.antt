pub mod Lives
pub mod Laws
pub mod Devices
pub mod Lines
-- what only the code needs
pub mod Rounds
