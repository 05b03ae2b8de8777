pub mod CodeLengths
pub mod Meanings
pub mod MoreInputs
pub mod Runs
pub mod Sectors
pub mod ShortLists
