-- How far a recording may be beyond a SAVE, and up to where the two are compared.
use Rattle.std.specs.Prelude.{◌≡◌, ◌≤◌, ◌<◌, ◌+◌, ℕ, List, length, take, Option, None, Some}
use Rattle.machine.specs.Machine.{MachineState, after, start}
use Rattle.input_entries.specs.declared.Entry.{Entry}
use Rattle.session.specs.Inputs.{inputs_of}
use Rattle.replaying.specs.declared.verifying.Limits.{Limits}

-- The recording has these inputs, and not too many beyond them; and where there are no more than are replayed, the machine is the one after
-- them.
pub record LeadsUpTo (limits : Limits) (rom : List ℕ) (entries : List Entry) (count : ℕ) (machine : MachineState) : Type 0 where
  pub enough : count ≤ length entries
  pub near : length entries ≤ count + limits.beyond
  pub machine_is : count ≤ limits.replayed → machine ≡ after (start rom) (inputs_of (take count entries))

-- the machine is compared of a SAVE with so many inputs, where the recording has so many
abbrev pub AreCompared : (limits : Option Limits) → (recorded count : ℕ) → Type 0
AreCompared None recorded count = count ≤ recorded
AreCompared (Some limits) recorded count = (count ≤ recorded) × (recorded ≤ count + limits.beyond) × (count ≤ limits.replayed)

-- the recording has so many inputs, more than it may have beyond so many
abbrev pub IsBeyond : (limits : Option Limits) → (recorded count : ℕ) → Type 0
IsBeyond None recorded count = ⊥
IsBeyond (Some limits) recorded count = count + limits.beyond < recorded
