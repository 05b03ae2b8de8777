pub mod Appends
pub mod Content
pub mod Found
pub mod Inputs
pub mod Laws
pub mod Log
pub mod Sizes
-- what only the code needs
pub mod Widths
