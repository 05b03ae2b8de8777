pub mod ClockJump
pub mod Fits
pub mod BankLaws
pub mod Legal
pub mod RomReads
pub mod Same
pub mod Windows
