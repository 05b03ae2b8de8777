pub mod OrderLines
pub mod LinesRead
pub mod KeptMachines
pub mod Compositions
pub mod GoingOn
pub mod Lines
pub mod Wholes
