pub mod Picture
pub mod Registers
pub mod Stores
pub mod Pgm
pub mod Laws
pub mod SignalLaws
pub mod WindowLaws
pub mod Quiet
-- what only the code needs
pub mod PictureJump
pub mod LateRows
pub mod LatePicture
