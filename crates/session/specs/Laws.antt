-- Laws of what images stand for, which public functions state.
use Rattle.std.specs.Prelude.{◌≡◌, ◌<◌, ◌+◌, ◌^◌, ℕ, List, length, Option, Some}
use Rattle.sha2.specs.Sha256.{sha256}
use Rattle.machine.specs.Machine.{MachineState}
use Rattle.machine.specs.Machine.{Frame, Seconds}
use Rattle.snapshot.specs.Encoding.{encoded}
use Rattle.snapshot.specs.Legal.{IsMachineOf}
use Rattle.log_format.specs.Appends.{Adds}
use Rattle.log_format.specs.Content.{ImageContent, new_generation}
use Rattle.input_entries.specs.declared.Entry.{Entry}
use Rattle.session.specs.Inputs.{inputs_of, entry_of, input_of}
use Rattle.session.specs.Stands.{Position, stands, further}

-- a content with more inputs after its log stands for these inputs further
abbrev pub MoreInputsStandFurther : Type 0
MoreInputsStandFurther =
    (rom : List ℕ) (old new : Option ImageContent) (more : List Entry) (from : Position) → Adds more old new → stands rom old ≡ Some from
    → from.count + length more < 2 ^ 64 → stands rom new ≡ further (inputs_of more) (Some from)

-- a new generation with a snapshot of a machine stands for this machine
abbrev pub ASnapshotStandsForItsMachine : Type 0
ASnapshotStandsForItsMachine =
    (rom : List ℕ) (m : MachineState) (base : ℕ) → IsMachineOf rom m → base < 2 ^ 64
    → stands rom (Some (new_generation (sha256 rom) base (encoded m))) ≡ Some (record { count = base; machine = m })

-- the entry of a frame gives its input back, and so does that of seconds that a `u32` holds
pub record EntriesGiveInputsBack : Type 0 where
  pub frames : (buttons : ℕ) → input_of (entry_of (Frame buttons)) ≡ Frame buttons
  pub seconds : (n : ℕ) → n < 2 ^ 32 → input_of (entry_of (Seconds n)) ≡ Seconds n
