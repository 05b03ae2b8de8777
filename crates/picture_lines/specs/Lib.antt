pub mod Pixel
pub mod Bits
pub mod WinnerLaw
pub mod Choice
-- what only the code needs
pub mod Tiles
pub mod Layers
