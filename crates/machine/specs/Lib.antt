pub mod Machine
pub mod MachineStores
pub mod MachineLaws
pub mod Legal
pub mod Sent
pub mod Watched
pub mod WatchedLaws
pub mod FastRuns
pub mod Looking
-- what only the code needs
pub mod Waiting
pub mod WaitingLoop
pub mod PollingLoop
pub mod CountingLoop
pub mod Watching
