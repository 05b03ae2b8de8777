pub mod Words
pub mod Texts
pub mod KeptStates
pub mod Slots
pub mod Taking
pub mod Looks
