-- What stands on the devices of a game and a recording that have just begun.
use Rattle.std.specs.Prelude.{◌≡◌, ℕ, List, [], Some}
use Rattle.sha2.specs.Sha256.{sha256}
use Rattle.machine.specs.Machine.{start}
use Rattle.sector_device.specs.DiskState.{DiskState, Settled}
use Rattle.recording.specs.Recorded.{recorded}
use Rattle.session.specs.Stands.{IsAtRest}

-- one image is left, which stands for a new game of this ROM, with the machine at power-on
abbrev pub IsNewGame : (rom : List ℕ) → DiskState → Type 0
IsNewGame rom now = IsAtRest rom now 0 [] (start rom)

-- one image is left, which is a recording of this ROM without inputs
pub record IsNewRecording (rom : List ℕ) (now : DiskState) : Type 0 where
  pub settled : Settled now
  pub empty : recorded (sha256 rom) now.sectors ≡ Some []
