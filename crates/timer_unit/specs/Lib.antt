pub mod Timer
pub mod Serial
pub mod Laws
pub mod SerialLaws
-- what only the code needs
pub mod TimerJump
