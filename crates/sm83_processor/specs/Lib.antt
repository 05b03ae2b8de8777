pub mod Rules
pub mod RegisterPairs
pub mod RegisterOperations
pub mod Execution
pub mod Steps
pub mod Opcodes
pub mod FastStep
pub mod StillSteps
-- what only the code needs
pub mod KeptMemory
