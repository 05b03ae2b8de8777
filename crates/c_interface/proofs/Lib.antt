pub mod MachineBox
pub mod SessionBox
pub mod Values
