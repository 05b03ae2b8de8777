-- A generation that a session begins; a reader needs none of this.
use Rattle.std.specs.Prelude.{◌≡◌, ◌≤◌, ◌<◌, ◌-◌, ◌^◌, ℕ}
use Rattle.sector_log.specs.Calls.{CanBegin}
use Rattle.log_format.specs.Content.{need}
use Rattle.sector_log.specs.declared.fault.LogFault.{LogFault}
use Rattle.sector_log.specs.declared.fault.LogFault.TheVariants.{Memory as LogMemory, Device as LogDevice, TooSmall as LogTooSmall, GenerationsUsedUp as LogGenerationsUsedUp, LogFull, Broken as LogBroken}
use Rattle.session.specs.declared.error.SessionError.{SessionError}
use Rattle.session.specs.declared.error.SessionError.TheVariants.{Memory, Device, TooSmall, GenerationsUsedUp, Broken}

-- what a refusal of the log is for a session
abbrev pub session_fault : LogFault → SessionError
session_fault LogMemory = Memory
session_fault LogDevice = Device
session_fault (LogTooSmall needed) = TooSmall needed
session_fault LogGenerationsUsedUp = GenerationsUsedUp
session_fault LogFull = Broken
session_fault LogBroken = Broken

-- why no generation is begun
abbrev pub IsBeginRefusal : SessionError → (blob_length count last : ℕ) → Type 0
IsBeginRefusal (TooSmall needed) blob_length count last = (needed ≡ need blob_length) × (count < need blob_length)
IsBeginRefusal GenerationsUsedUp blob_length count last = (need blob_length ≤ count) × (last ≡ 2 ^ 64 - 1)
IsBeginRefusal Device blob_length count last = CanBegin blob_length count last
IsBeginRefusal why blob_length count last = ⊥
