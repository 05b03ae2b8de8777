pub mod Lines
pub mod Clocks
pub mod Lives
pub mod Laws
pub mod Openings
pub mod Texts
