pub mod Calls
pub mod Promises
pub mod Accessors
pub mod OpenedAccessors
-- what only the code needs
pub mod Layout
pub mod Reading
pub mod Store
