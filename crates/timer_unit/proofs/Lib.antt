pub mod SerialJump
pub mod SerialLaws
pub mod TimerJump
pub mod Requested
pub mod Tables
pub mod Overflow
