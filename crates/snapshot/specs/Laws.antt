-- Laws of snapshots, which public functions state.
use Rattle.std.specs.Prelude.{◌≡◌, ◌<◌, ℕ, List, slice_index}
use Rattle.cartridge.specs.Accepted.{IsAccepted}
use Rattle.machine.specs.Machine.{MachineState, start}
use Rattle.snapshot.specs.Encoding.{encoded}
use Rattle.snapshot.specs.Legal.{IsMachineOf, IsLegalSnapshot}
use Rattle.snapshot.specs.Reading.{machine_in}

-- two machines with one ROM and one snapshot are equal
abbrev pub OneSnapshotIsOneMachine : Type 0
OneSnapshotIsOneMachine = (image : List ℕ) (m n : MachineState) → IsMachineOf image m → IsMachineOf image n → encoded m ≡ encoded n → m ≡ n

-- the snapshot of a machine of an image is legal for the image
abbrev pub SnapshotsAreLegal : Type 0
SnapshotsAreLegal = (image : List ℕ) (m : MachineState) → IsMachineOf image m → IsLegalSnapshot image (encoded m)

-- a legal snapshot of an accepted image, of bytes, is the snapshot of a machine of the image: of the one that is read from it
abbrev pub ALegalSnapshotIsAMachine : Type 0
ALegalSnapshotIsAMachine =
    (image bytes : List ℕ) → IsAccepted image → IsLegalSnapshot image bytes → ((i : ℕ) → slice_index bytes i < 256)
    → IsMachineOf image (machine_in image bytes) × (encoded (machine_in image bytes) ≡ bytes)

-- an accepted image's machine at power-on is a machine of the image
abbrev pub TheStartIsAMachine : Type 0
TheStartIsAMachine = (image : List ℕ) → IsAccepted image → IsMachineOf image (start image)
