-- A session that is given what its recording has beyond it.
use Rattle.std.specs.Prelude.{◌≡◌, ◌≤◌, ◌+◌, ◌-◌, ℕ, List, [], ◌∷◌, ◌++◌, length, drop, if◌then◌else◌, Ok, Err}
use Rattle.machine.specs.Machine.{Input}
use Rattle.sector_device.specs.DiskState.{DiskState, HasAnswered}
use Rattle.sector_device.specs.Looking.{LooksOnly}
use Rattle.input_entries.specs.Inputs.{is_entry, inputs_in, inputs}
use Rattle.input_entries.specs.declared.StoredEntry.{StoredEntry}
use Rattle.recording.specs.Recorded.{entries}
use Rattle.recording.specs.declared.fault.RecordingFault.TheVariants.{Device}
use Rattle.session.specs.Inputs.{inputs_of}
use Rattle.session.specs.Stands.{Position}
use Rattle.session.specs.declared.error.SessionError.{SessionError}
use Rattle.session.specs.declared.error.SessionError.TheVariants.{Output}
use Rattle.playing.specs.Going.{Place, all_of, IsPlayedAt, SaveAdvances, SaveStops}
use Rattle.playing.specs.Played.{IsStop, Stopped}
use Rattle.recorded_play.specs.Steps.{IsOfDevices, save_faults_after, recording_faults_after}
use Rattle.recorded_play.specs.declared.error.RecordError.{RecordError}
use Rattle.recorded_play.specs.declared.error.RecordError.TheVariants.{Session, Recording}

-- the inputs of an entry, none if it is none
abbrev pub given_by : StoredEntry → List Input
given_by entry = if is_entry entry then inputs_of (inputs_in entry) else []

abbrev pub given_by_all : List StoredEntry → List Input
given_by_all [] = []
given_by_all (entry ∷ list) = given_by entry ++ given_by_all list

-- what an honest recording holds
abbrev pub recorded_in : DiskState → List Input
recorded_in now = inputs_of (inputs (entries now.sectors))

-- one of these inputs, or a save among them, was refused
pub record StopsOver (old new : Place) (more : List Input) (why : SessionError) : Type 0 where
  pub no_further : SaveStops old new more why
  pub silent : why ≡ Output → ⊥

-- these inputs were passed over, of which so many were skipped, and the others given; so many of the next are to be skipped
pub record AdvancesOver (old new : Place) (skip left : ℕ) (passed : List Input) : Type 0 where
  pub goes : SaveAdvances old new (drop skip passed)
  pub left_is : left ≡ skip - length passed

-- why a game is not given what its recording has beyond it: as a play stops that writes nothing, or a call of the recording's device failed
abbrev pub IsCatchUpStop : RecordError → (all : ℕ) → (now : DiskState) → Type 0
IsCatchUpStop (Session why) all now = IsStop why all now × (why ≡ Output → ⊥)
IsCatchUpStop (Recording why) all now = why ≡ Device
IsCatchUpStop why all now = ⊥

-- ---- with the recording that is read

pub record AdvancesOverRecorded (old new : Place) (old_recording new_recording : DiskState) (skip left : ℕ) (recorded : List Input) : Type 0 where
  pub passed : List Input
  pub passes : AdvancesOver old new skip left passed
  pub passed_is : old_recording.honest → passed ≡ recorded
  pub looks : old_recording.honest → LooksOnly old_recording new_recording
  pub calls : HasAnswered {T = Unit {0}} recording_faults_after old_recording new_recording (Ok tt)

-- a call of one of the devices failed, or a save was refused
pub record StopsOverRecorded (old new : Place) (old_recording new_recording : DiskState) (skip : ℕ) (recorded : List Input) (why : RecordError) : Type 0 where
  pub stopped : old_recording.honest → (rom : List ℕ) (from : Position) (given : List Input) → IsPlayedAt rom old from given
      → Stopped rom old.disk new.disk new.acknowledged from (given ++ drop skip recorded)
  pub cause : old_recording.honest → IsCatchUpStop why (all_of old + length (drop skip recorded)) new.disk
  pub kind : IsOfDevices why
  pub looks : old_recording.honest → LooksOnly old_recording new_recording
  pub later : old.acknowledged ≤ new.acknowledged
  pub save_calls : HasAnswered {T = Unit {0}} save_faults_after old.disk new.disk (Err why)
  pub recording_calls : HasAnswered {T = Unit {0}} recording_faults_after old_recording new_recording (Err why)

-- all that the recording has beyond the SAVE was given and saved
pub record HasCaughtUp (old new : Place) (old_recording new_recording : DiskState) : Type 0 where
  pub more : List Input
  pub goes : SaveAdvances old new more
  pub more_is : old_recording.honest → more ≡ drop old.acknowledged (recorded_in old_recording)
  pub looks : old_recording.honest → LooksOnly old_recording new_recording
  pub calls : HasAnswered {T = Unit {0}} recording_faults_after old_recording new_recording (Ok tt)
