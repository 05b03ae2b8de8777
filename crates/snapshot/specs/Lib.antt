pub mod Layout
pub mod Encoding
pub mod Table
pub mod Reading
pub mod Legal
pub mod Laws
-- what only the code needs
pub mod Ascending
