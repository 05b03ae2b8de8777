pub mod Building
pub mod Getters
pub mod CommandOperands
pub mod AllWords
pub mod ClapWalks
pub mod Named
