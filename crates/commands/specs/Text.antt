-- What a call reads and writes, and the device that it is on.
use Rattle.std.specs.Prelude.{◌≡◌, ℕ, List, Option}
use Rattle.std.specs.Io.KnownBytes.{Keeps}
use Rattle.sector_device.specs.DiskState.{DiskState}

-- a text before a call and since it, where it is known: what went to an output, or what an input has left
pub record Text : Type 0 where
  pub before : Option (List ℕ)
  pub since : Option (List ℕ)

-- nothing went out
abbrev pub IsUnwritten : Text → Type 0
IsUnwritten output = Keeps output.before output.since

-- nothing was read
abbrev pub IsUnread : Text → Type 0
IsUnread input = input.since ≡ input.before

-- a call on a device: the device at its start and at its return, and what went out
pub record Call : Type 1 where
  pub old : DiskState
  pub now : DiskState
  pub output : Text

-- from this device to that one
abbrev pub call_on : (old now : DiskState) → (before since : Option (List ℕ)) → Call
call_on old now before since = record { old = old; now = now; output = record { before = before; since = since } }
