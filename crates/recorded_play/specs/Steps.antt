-- How far a SAVE and a recording have come together.
use Rattle.std.specs.Prelude.{◌≡◌, ◌≢◌, ◌≤◌, ◌+◌, ℕ, List, ◌++◌, length, take, drop, false, Some, Ok, Err, ⊤}
use Rattle.machine.specs.Machine.{start, after}
use Rattle.machine.specs.Machine.{Input}
use Rattle.sector_device.specs.DiskState.{DiskState, Settled, HasAnswered}
use Rattle.sector_device.specs.Runs.{HoldsSince}
use Rattle.sector_device.specs.declared.device.SectorDevice.{Ghosts}
use Rattle.input_entries.specs.declared.Entry.{Entry}
use Rattle.recording.specs.Calls.{faults_after as faults_after_recording}
use Rattle.recording.specs.Growing.{fits_image}
use Rattle.recording.specs.Accessors.{device_of as device_of_recording}
use Rattle.recording.specs.declared.recording.Recording.{Recording as RecordedInputs}
use Rattle.recording.specs.declared.fault.RecordingFault.{RecordingFault}
use Rattle.recording.specs.declared.fault.RecordingFault.TheVariants.{Device, Full}
use Rattle.session.specs.Calls.{faults_after as faults_after_save}
use Rattle.session.specs.Inputs.{inputs_of}
use Rattle.session.specs.Stands.{Position}
use Rattle.session.specs.declared.error.SessionError.{SessionError}
use Rattle.session.specs.declared.error.SessionError.TheVariants.{Device as DeviceOfSession, Output}
use Rattle.session.specs.declared.session.Session.{Session as PlaySession}
use Rattle.playing.specs.Going.{Place, place, all_of, IsPlayedAt}
use Rattle.playing.specs.Played.{IsStop, Advanced, Stopped, Reaches}
use Rattle.replaying.specs.Agreeing.{recorded_inputs}
use Rattle.recorded_play.specs.declared.error.RecordError.{RecordError}
use Rattle.recorded_play.specs.declared.error.RecordError.TheVariants.{Session, Recording, Behind, Line, Input as FailedInput}

-- where the session of the SAVE is, and the device of the recording
pub record Game : Type 1 where
  pub save : Place
  pub recording : DiskState

module _ {D E : Type 0} {disk : Ghosts D} {others : Ghosts E} where
  abbrev pub game : PlaySession D disk → RecordedInputs E others → Game
  game s r = record { save = place s; recording = others.disk (device_of_recording r) }

-- no input
abbrev pub power_on : (rom : List ℕ) → Position
power_on rom = record { count = 0; machine = start rom }

-- ---- the recording

-- the image holds the first of these inputs, at least so many
pub record HoldsFirst (rom : List ℕ) (least : ℕ) (all : List Input) (image : List (List ℕ)) : Type 0 where
  pub count : ℕ
  pub at_least : least ≤ count
  pub within : count ≤ length all
  pub is : recorded_inputs rom image ≡ Some (take count all)

-- of all these inputs since power-on those are recorded, and nothing else, that the SAVE has acknowledged, and the others are pending
pub record HoldsSaved (rom : List ℕ) (now : DiskState) (acknowledged : ℕ) (pending : List Entry) (all : List Input) : Type 0 where
  pub honest : now.honest
  pub settled : Settled now
  pub within : acknowledged ≤ length all
  pub pending_is : inputs_of pending ≡ drop acknowledged all
  pub recorded_is : recorded_inputs rom now.sectors ≡ Some (take acknowledged all)

-- from `old` on each image held some of these inputs, and what is acknowledged is recorded
pub record Records (rom : List ℕ) (old now : DiskState) (acknowledged : ℕ) (pending : List Entry) (all : List Input) : Type 0 where
  pub moments : HoldsSince old now (HoldsFirst rom 0 all)
  pub holds : HoldsSaved rom now acknowledged pending all

-- ---- both

-- all these inputs since power-on were given; the SAVE and the recording hold the same first of them
pub record IsInStep (rom : List ℕ) (now : Game) (all : List Input) : Type 0 where
  pub played : IsPlayedAt rom now.save (power_on rom) all
  pub holds : HoldsSaved rom now.recording now.save.acknowledged now.save.pending all

-- Each image that is left of the SAVE stands for some of these inputs since power-on, and each that is left of the recording holds
-- them, and those that the SAVE has acknowledged too.
pub record IsBehind (rom : List ℕ) (old now : Game) (all : List Input) : Type 0 where
  pub honest : now.recording.honest
  pub moments : HoldsSince old.recording now.recording (HoldsFirst rom 0 all)
  pub most : ℕ
  pub within : most ≤ length all
  pub least : now.save.acknowledged ≤ most
  pub saves : (image : List (List ℕ)) → now.save.disk.image image → Reaches rom (power_on rom) 0 (take most all) image
  pub recordings : (image : List (List ℕ)) → now.recording.image image → HoldsFirst rom most all image

-- ---- refusals

-- The recording holds the first of these inputs, and has too few sectors for those after them that were given and are not saved.
pub record IsFull (rom : List ℕ) (recording : DiskState) (all : List Input) : Type 0 where
  pub saved : ℕ
  pub recorded_is : recorded_inputs rom recording.sectors ≡ Some (take saved all)
  pub given : ℕ
  pub saved_given : saved ≤ given
  pub within : given ≤ length all
  pub unsaved : List Entry
  pub unsaved_is : inputs_of unsaved ≡ drop saved (take given all)
  pub too_many : fits_image recording.sectors unsaved ≡ false

-- a refusal of one of the devices, or of what they hold: of no line, and of no output
abbrev pub IsOfDevices : RecordError → Type 0
IsOfDevices (Session why) = why ≢ Output
IsOfDevices (Recording why) = ⊤
IsOfDevices (Behind count) = ⊤
IsOfDevices (Line number) = ⊥
IsOfDevices FailedInput = ⊥

-- the count of failed calls of the SAVE's device after a refusal, and that of the recording's
abbrev pub save_faults_after : RecordError → ℕ → ℕ
save_faults_after (Session why) faults = faults_after_save why faults
save_faults_after (Recording why) faults = faults
save_faults_after (Behind count) faults = faults
save_faults_after (Line number) faults = faults
save_faults_after FailedInput faults = faults

abbrev pub recording_faults_after : RecordError → ℕ → ℕ
recording_faults_after (Session why) faults = faults
recording_faults_after (Recording why) faults = faults_after_recording why faults
recording_faults_after (Behind count) faults = faults
recording_faults_after (Line number) faults = faults
recording_faults_after FailedInput faults = faults

-- only a line that could not be written is written in part: to a report every other refusal is what a failed call is
abbrev pub told_as : RecordError → SessionError
told_as (Session why) = why
told_as (Recording why) = DeviceOfSession
told_as (Behind count) = DeviceOfSession
told_as (Line number) = DeviceOfSession
told_as FailedInput = DeviceOfSession

-- the recording stops a game where a call of its device fails, or where the inputs don't fit it
abbrev pub StopsAppend : RecordingFault → Type 0
StopsAppend Device = ⊤
StopsAppend Full = ⊤
StopsAppend why = ⊥

-- Why a game that was taken up stops, with so many inputs in all: as a play does, or by its recording.
abbrev pub IsRecordStop : RecordError → (all : ℕ) → (now : DiskState) → Type 0
IsRecordStop (Session why) all now = IsStop why all now
IsRecordStop (Recording why) all now = StopsAppend why
IsRecordStop why all now = ⊥

-- ---- steps

-- these inputs were given
pub record BothAdvance (old new : Game) (more : List Input) : Type 0 where
  -- the SAVE has come so far
  pub going : (rom : List ℕ) (from : Position) (given : List Input) → IsPlayedAt rom old.save from given
      → Advanced rom old.save.disk new.save.disk new.save.acknowledged new.save.pending new.save.machine from (given ++ more)
  -- and so has the recording
  pub records : (rom : List ℕ) (all : List Input) → HoldsSaved rom old.recording old.save.acknowledged old.save.pending all
      → Records rom old.recording new.recording new.save.acknowledged new.save.pending (all ++ more)
  pub machine_is : new.save.machine ≡ after old.save.machine more
  pub all_is : all_of new.save ≡ all_of old.save + length more
  pub later : old.save.acknowledged ≤ new.save.acknowledged
  pub save_calls : HasAnswered {T = Unit {0}} save_faults_after old.save.disk new.save.disk (Ok tt)
  pub recording_calls : HasAnswered {T = Unit {0}} recording_faults_after old.recording new.recording (Ok tt)
  pub rom : new.save.machine.processor.memory.banks.rom ≡ old.save.machine.processor.memory.banks.rom

-- one of these inputs, or a save or a line among them, was refused
pub record BothStop (old new : Game) (more : List Input) (why : RecordError) : Type 0 where
  -- each image that is left of the SAVE has what was acknowledged
  pub stopped : (rom : List ℕ) (from : Position) (given : List Input) → IsPlayedAt rom old.save from given
      → Stopped rom old.save.disk new.save.disk new.save.acknowledged from (given ++ more)
  -- and the recording has at least what the SAVE has
  pub behind : (rom : List ℕ) (all : List Input) → IsInStep rom old all → IsBehind rom old new (all ++ more)
  pub cause : IsRecordStop why (all_of old.save + length more) new.save.disk
  pub full : why ≡ Recording Full → (rom : List ℕ) (all : List Input) → HoldsSaved rom old.recording old.save.acknowledged old.save.pending all → IsFull rom new.recording (all ++ more)
  pub later : old.save.acknowledged ≤ new.save.acknowledged
  pub save_calls : HasAnswered {T = Unit {0}} save_faults_after old.save.disk new.save.disk (Err why)
  pub recording_calls : HasAnswered {T = Unit {0}} recording_faults_after old.recording new.recording (Err why)
