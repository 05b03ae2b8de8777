pub mod Histories
pub mod Lines
pub mod Marks
