pub mod Battery
pub mod Exporting
pub mod Importing
pub mod Laws
