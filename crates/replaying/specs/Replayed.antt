-- What giving a machine the first inputs of a recording makes of it; a reader needs none of this.
use Rattle.std.specs.Prelude.{◌≡◌, ◌≢◌, ◌≤◌, ◌<◌, ◌-◌, ℕ, List, length, take, Option, None, Some, ⊤, All}
use Rattle.machine.specs.Machine.{MachineState, after, start, Input, PassesTime}
use Rattle.input_entries.specs.declared.Entry.{Entry}
use Rattle.recording.specs.declared.fault.RecordingFault.TheVariants.{Device}
use Rattle.session.specs.Inputs.{inputs_of}
use Rattle.replaying.specs.declared.error.VerifyError.{VerifyError}
use Rattle.replaying.specs.declared.error.VerifyError.TheVariants.{Save, Recording, Behind, Ahead, Memory, Differ}
use Rattle.replaying.specs.declared.verifying.Limits.{Limits}
use Rattle.replaying.specs.Within.{AreCompared, IsBeyond, LeadsUpTo}

-- it was given some inputs
pub record HasPlayed (old now : MachineState) : Type 0 where
  pub inputs : List Input
  pub passes : All PassesTime inputs
  pub is : now ≡ after old inputs

-- it was given as many of these inputs as `most`, and so many more could still be given
pub record HasReplayed (old now : MachineState) (most left : ℕ) (entries : List Entry) : Type 0 where
  pub machine_is : now ≡ after old (inputs_of (take most entries))
  pub left_is : left ≡ most - length entries

-- the recording has these inputs, and the machine is the one after the first `count` of them
pub record LeadsTo (rom : List ℕ) (entries : List Entry) (count : ℕ) (machine : MachineState) : Type 0 where
  pub enough : count ≤ length entries
  pub machine_is : machine ≡ after (start rom) (inputs_of (take count entries))

-- it leads there, within limits where there are any
abbrev pub LeadsWithin : (limits : Option Limits) → (rom : List ℕ) → (entries : List Entry) → (count : ℕ) → MachineState → Type 0
LeadsWithin None rom entries count machine = LeadsTo rom entries count machine
LeadsWithin (Some limits) rom entries count machine = LeadsUpTo limits rom entries count machine

-- why it is not found to lead there
abbrev pub IsCompareCause : (rom : List ℕ) → (entries : List Entry) → (count : ℕ) → MachineState → VerifyError → Type 0
IsCompareCause rom entries count machine (Save why) = ⊥
IsCompareCause rom entries count machine (Recording why) = why ≡ Device
IsCompareCause rom entries count machine (Behind recorded) = (recorded ≡ length entries) × (recorded < count)
IsCompareCause rom entries count machine (Ahead recorded) = ⊥
IsCompareCause rom entries count machine Memory = AreCompared None (length entries) count
IsCompareCause rom entries count machine Differ = (count ≤ length entries) × (machine ≢ after (start rom) (inputs_of (take count entries)))

-- or, within limits, to be too far beyond it
abbrev pub IsCompareCauseWithin : (limits : Option Limits) → (rom : List ℕ) → (entries : List Entry) → (count : ℕ) → MachineState → VerifyError → Type 0
IsCompareCauseWithin limits rom entries count machine (Ahead recorded) = (recorded ≡ length entries) × IsBeyond limits recorded count
IsCompareCauseWithin limits rom entries count machine Memory = AreCompared limits (length entries) count
IsCompareCauseWithin limits rom entries count machine why = IsCompareCause rom entries count machine why

-- and it is no refusal of the look, and none of limits where there are none
abbrev pub IsOfComparing : (limits : Option Limits) → VerifyError → Type 0
IsOfComparing limits (Save why) = ⊥
IsOfComparing None (Ahead recorded) = ⊥
IsOfComparing limits why = ⊤
