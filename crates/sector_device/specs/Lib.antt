pub mod DiskState
pub mod Records
pub mod Runs
pub mod Looking
pub mod Memory
pub mod FileRecord
pub mod FileDevice
pub mod MemoryDevice
pub mod FailingCalls
pub mod Refusal
-- what only the code needs
pub mod RecordLaws
