-- A whole recorded play: how it went, and where it is refused.
use Rattle.std.specs.Prelude.{◌≡◌, ◌⊎◌, ◌≤◌, ◌<◌, ◌+◌, ℕ, List, [], ◌++◌, length, drop, false, Option, Some, Result, Ok, Err, ⊤}
use Rattle.std.specs.Io.KnownBytes.{Appends, Keeps}
use Rattle.sha2.specs.Sha256.{sha256}
use Rattle.machine.specs.Machine.{MachineState, after}
use Rattle.machine.specs.Machine.{Input}
use Rattle.snapshot.specs.Legal.{IsMachineOf}
use Rattle.sector_device.specs.DiskState.{DiskState, Settled}
use Rattle.sector_device.specs.Looking.{HasLooked}
use Rattle.sector_device.specs.Runs.{HoldsSince}
use Rattle.sector_device.specs.declared.device.SectorDevice.{Ghosts}
use Rattle.log_format.specs.Content.{content, generation_in}
use Rattle.recording.specs.Calls.{IsOpenCause}
use Rattle.recording.specs.Accessors.{device_of as device_of_recording}
use Rattle.recording.specs.declared.fault.RecordingFault.TheVariants.{Memory as NoMemoryOfRecording, NoRecording, OtherCartridge, Full}
use Rattle.session.specs.Calls.{CanBeLookedAt}
use Rattle.session.specs.Stands.{IsAtRest, StandsAsBefore, Position, stands, behind}
use Rattle.session.specs.Found.{IsResumeCause}
use Rattle.session.specs.Accessors.{device_of}
use Rattle.session.specs.declared.error.SessionError.{SessionError}
use Rattle.session.specs.declared.error.SessionError.TheVariants.{Memory, Output}
use Rattle.playing.specs.Played.{PlayImage, Reaches, IsAsItWas, IsStop}
use Rattle.playing.specs.Report.{HasTold}
use Rattle.playing.specs.Lines.{texts}
use Rattle.input_lines.specs.Given.{Given, HasReadGiven}
use Rattle.machine_lines.specs.KeptStates.{KeptMachine}
use Rattle.streaming.specs.Orders.{Deed, asked}
use Rattle.streaming.specs.Reading.{Asks, AsksUpTo, ReadsTo}
use Rattle.streaming.specs.Answers.{inputs_of_deeds, stream_lines}
use Rattle.streaming.specs.declared.obeying.End.{End}
use Rattle.streaming.specs.declared.obeying.End.TheVariants.{Wrong, Failed}
use Rattle.replaying.specs.Agreeing.{AllAgree, recorded_inputs}
use Rattle.recorded_play.specs.Steps.{HoldsFirst, IsFull, IsOfDevices, IsRecordStop, told_as}
use Rattle.recorded_play.specs.declared.error.RecordError.{RecordError}
use Rattle.recorded_play.specs.declared.error.RecordError.TheVariants.{Session, Recording, Behind, Line as WrongLine, Input as FailedInput}
use Rattle.recorded_play.specs.declared.error.RecordRefused.{RecordRefused}
use Rattle.recorded_play.specs.declared.recorded_game.RecordedGame.{RecordedGame}

-- What reads of the SAVE give stands for this position; what reads of the recording give holds at least as many inputs; and these are
-- the inputs that it has beyond them.
pub record IsTakenUp (rom : List ℕ) (save recording : List (List ℕ)) (at : Position) (more : List Input) : Type 0 where
  pub stands_is : stands rom (content save) ≡ Some at
  pub played : List Input
  pub recorded_is : recorded_inputs rom recording ≡ Some played
  pub enough : at.count ≤ length played
  pub more_is : more ≡ drop at.count played

-- one image of a recording is left, which holds exactly these inputs
pub record HoldsAll (rom : List ℕ) (now : DiskState) (all : List Input) : Type 0 where
  pub settled : Settled now
  pub recorded_is : recorded_inputs rom now.sectors ≡ Some all

-- ---- taken up

-- the game was taken up there, was given these inputs, and is at rest with them; the recording was only looked at
pub record HasTakenUp (rom : List ℕ) (old_save now_save old_recording now_recording : DiskState) (count : ℕ) (machine : MachineState) : Type 0 where
  pub at : Position
  pub of_rom : IsMachineOf rom at.machine
  pub stood : old_save.honest → stands rom (content old_save.sectors) ≡ Some at
  pub more : List Input
  pub count_is : count ≡ at.count + length more
  pub machine_is : machine ≡ after at.machine more
  pub taken_up : old_save.honest → old_recording.honest → IsTakenUp rom old_save.sectors old_recording.sectors at more
  pub rests : old_save.honest → IsAtRest rom now_save count [] machine
  pub images : old_save.honest → HoldsSince old_save now_save (PlayImage rom old_save more)
  pub looked : old_recording.honest → HasLooked old_recording now_recording
  pub settled : old_recording.honest → Settled now_recording

-- ---- to an end

-- The lines that were read up to this end, and all that they ask for: it was done, answered, recorded and saved, from where the game
-- was taken up.
pub record HasRecorded (rom : List ℕ) (old_save now_save old_recording now_recording : DiskState) (end : End) (before_in since_in before since : Option (List ℕ)) : Type 0 where
  pub at : Position
  pub of_rom : IsMachineOf rom at.machine
  pub stood : old_save.honest → stands rom (content old_save.sectors) ≡ Some at
  pub more : List Input
  pub taken_up : old_save.honest → old_recording.honest → IsTakenUp rom old_save.sectors old_recording.sectors at more
  -- the power switch and states are no inputs of a recording
  pub lines : List Given
  pub deeds : List Deed
  pub kept : List KeptMachine
  pub asks : Asks false rom (behind at more).machine lines deeds kept
  pub read : ReadsTo false rom kept end lines before_in since_in
  -- the report is that of a stream from there
  pub answered : Appends before since (texts (stream_lines (behind at more) deeds))
  -- the SAVE has all inputs
  pub rests : old_save.honest → IsAtRest rom now_save (at.count + length (more ++ inputs_of_deeds deeds)) [] (after at.machine (more ++ inputs_of_deeds deeds))
  -- each image of it at each moment stands for what one stood for before, or for some of them
  pub images : old_save.honest → HoldsSince old_save now_save (PlayImage rom old_save (more ++ inputs_of_deeds deeds))
  -- and the recording holds what it held and those of the lines
  pub recorded : (honest : old_save.honest) (recording_honest : old_recording.honest) → HoldsAll rom now_recording ((taken_up honest recording_honest).played ++ inputs_of_deeds deeds)

-- ---- where it is refused

-- It was taken up, and one of these lines was refused: of what a whole stream of them writes the front was written, and each image that
-- is left of the SAVE has all inputs up to each count that this tells, and so has each that is left of the recording.
pub record HasStopped (rom : List ℕ) (old_save now_save old_recording now_recording : DiskState) (why : RecordError) (before_in since_in before since : Option (List ℕ)) : Type 0 where
  pub at : Position
  pub of_rom : IsMachineOf rom at.machine
  pub stood : old_save.honest → stands rom (content old_save.sectors) ≡ Some at
  pub more : List Input
  pub taken_up : old_save.honest → old_recording.honest → IsTakenUp rom old_save.sectors old_recording.sectors at more
  pub lines : List Given
  pub deeds : List Deed
  pub asks : AsksUpTo false rom (behind at more).machine lines deeds
  pub unread : List ℕ
  pub read : HasReadGiven (asked false) lines unread before_in since_in
  pub cause : IsRecordStop why (at.count + length more + length (inputs_of_deeds deeds)) now_save
  -- a recording is full only where what is unsaved does not fit it
  pub full : why ≡ Recording Full → (honest : old_save.honest) (recording_honest : old_recording.honest) → IsFull rom now_recording ((taken_up honest recording_honest).played ++ inputs_of_deeds deeds)
  pub least : ℕ
  pub told : HasTold (told_as why) (at.count + length more + least) (stream_lines (behind at more) deeds) before since
  pub images : old_save.honest → HoldsSince old_save now_save (PlayImage rom old_save (more ++ inputs_of_deeds deeds))
  pub left : old_save.honest → (image : List (List ℕ)) → now_save.image image → Reaches rom at (length more + least) (more ++ inputs_of_deeds deeds) image
  pub recorded : (honest : old_save.honest) (recording_honest : old_recording.honest) → AllAgree rom old_save old_recording → (image : List (List ℕ)) → now_recording.image image
      → HoldsFirst rom (at.count + length more + least) ((taken_up honest recording_honest).played ++ inputs_of_deeds deeds) image

-- the image stands for what the SAVE stood for, and some of what the recording has beyond it
pub record IsCaughtUp (rom : List ℕ) (save recording : DiskState) (image : List (List ℕ)) : Type 0 where
  pub at : Position
  pub more : List Input
  pub taken_up : IsTakenUp rom save.sectors recording.sectors at more
  pub reaches : Reaches rom at 0 more image

abbrev pub TakeUpImage : (rom : List ℕ) → (save recording : DiskState) → List (List ℕ) → Type 0
TakeUpImage rom save recording image = StandsAsBefore rom save image ⊎ IsCaughtUp rom save recording image

-- a play with all inputs that are recorded, which writes nothing, would stop
pub record IsStopAtRecorded (rom : List ℕ) (why : SessionError) (now recording : DiskState) : Type 0 where
  pub played : List Input
  pub recorded_is : recorded_inputs rom recording.sectors ≡ Some played
  pub stop : IsStop why (length played) now
  pub silent : why ≡ Output → ⊥

-- the recording has so many inputs, fewer than the SAVE stands for
pub record IsBehindBy (rom : List ℕ) (save recording : List (List ℕ)) (count : ℕ) : Type 0 where
  pub at : Position
  pub stands_is : stands rom (content save) ≡ Some at
  pub played : List Input
  pub recorded_is : recorded_inputs rom recording ≡ Some played
  pub count_is : count ≡ length played
  pub fewer : count < at.count

-- Why a game is not taken up: it can't be resumed, or an input beyond it, or a save of them, is refused; the recording is not opened, or
-- a call of its device failed; or it has fewer inputs than the SAVE.
abbrev pub IsTakeUpCause : RecordError → (rom : List ℕ) → (old_save now_save recording : DiskState) → Type 0
IsTakeUpCause (Session why) rom old_save now_save recording =
    IsResumeCause rom (generation_in old_save.sectors) (content old_save.sectors) why ⊎ IsStopAtRecorded rom why now_save recording
IsTakeUpCause (Recording why) rom old_save now_save recording = IsOpenCause why (sha256 rom) recording
IsTakeUpCause (Behind count) rom old_save now_save recording = IsBehindBy rom old_save.sectors recording.sectors count
IsTakeUpCause (WrongLine number) rom old_save now_save recording = ⊥
IsTakeUpCause FailedInput rom old_save now_save recording = ⊥

-- the recording is none, or that of another ROM, or behind
abbrev pub IsForeign : RecordError → Type 0
IsForeign (Recording why) = (why ≡ NoRecording) ⊎ (why ≡ OtherCartridge)
IsForeign (Behind count) = ⊤
IsForeign why = ⊥

-- the SAVE can be looked at, and no call was made of the recording's device
abbrev pub IsBeforeRecording : (rom : List ℕ) → (old_save old_recording now_recording : DiskState) → Type 0
IsBeforeRecording rom old_save old_recording now_recording = (old_save.honest → CanBeLookedAt rom old_save) × IsAsItWas old_recording now_recording

-- the recording has all inputs of the SAVE: only generations that are used up, memory or a failed call refuses the game
abbrev pub CanGoOn : (rom : List ℕ) → (save recording : DiskState) → Type 0
CanGoOn rom save recording = save.honest → recording.honest → (at : Position) × (more : List Input) × IsTakenUp rom save.sectors recording.sectors at more

-- Where memory was refused nothing holds that is refused before: no call was made of either device; or the SAVE can be looked at, and no
-- call was made of the recording's; or the recording has all inputs of the SAVE.
abbrev pub IsWhereMemoryLacks : RecordError → (rom : List ℕ) → (old_save now_save old_recording now_recording : DiskState) → Type 0
IsWhereMemoryLacks (Session Memory) rom old_save now_save old_recording now_recording =
    (IsAsItWas old_save now_save × IsAsItWas old_recording now_recording) ⊎ IsBeforeRecording rom old_save old_recording now_recording ⊎ CanGoOn rom old_save old_recording
IsWhereMemoryLacks (Recording NoMemoryOfRecording) rom old_save now_save old_recording now_recording =
    old_save.honest → old_recording.honest → IsBeforeRecording rom old_save old_recording now_recording
IsWhereMemoryLacks why rom old_save now_save old_recording now_recording = ⊤

-- It was not taken up, and the recording was only looked at.
pub record IsNotTakenUp (rom : List ℕ) (old_save now_save old_recording now_recording : DiskState) (why : RecordError) : Type 0 where
  pub cause : old_save.honest → old_recording.honest → IsTakeUpCause why rom old_save now_save old_recording
  -- whatever the devices do, no line is the cause
  pub kind : IsOfDevices why
  pub images : old_save.honest → old_recording.honest → HoldsSince old_save now_save (TakeUpImage rom old_save old_recording)
  pub looked : old_recording.honest → HasLooked old_recording now_recording
  -- a recording that is not that of the SAVE is refused before anything is written to either
  pub untouched : IsForeign why → old_save.honest → old_recording.honest → HasLooked old_save now_save
  pub memory : IsWhereMemoryLacks why rom old_save now_save old_recording now_recording

-- It was taken up: it went up to a wrong line, or a read that failed; or a line was refused.
abbrev pub IsEndCause : RecordError → (rom : List ℕ) → (old_save now_save old_recording now_recording : DiskState) → (before_in since_in before since : Option (List ℕ)) → Type 0
IsEndCause (WrongLine number) rom old_save now_save old_recording now_recording before_in since_in before since =
    HasRecorded rom old_save now_save old_recording now_recording (Wrong number) before_in since_in before since
IsEndCause FailedInput rom old_save now_save old_recording now_recording before_in since_in before since =
    HasRecorded rom old_save now_save old_recording now_recording Failed before_in since_in before since
IsEndCause (Session why) rom old_save now_save old_recording now_recording before_in since_in before since =
    HasStopped rom old_save now_save old_recording now_recording (Session why) before_in since_in before since
IsEndCause (Recording why) rom old_save now_save old_recording now_recording before_in since_in before since =
    HasStopped rom old_save now_save old_recording now_recording (Recording why) before_in since_in before since
IsEndCause (Behind count) rom old_save now_save old_recording now_recording before_in since_in before since = ⊥

-- Why a recorded play is refused: it was not taken up, with nothing read of the input and nothing written to the report; or it was.
abbrev pub IsRecordCause : RecordError → (rom : List ℕ) → (old_save now_save old_recording now_recording : DiskState) → (before_in since_in before since : Option (List ℕ)) → Type 0
IsRecordCause why rom old_save now_save old_recording now_recording before_in since_in before since =
    (IsNotTakenUp rom old_save now_save old_recording now_recording why × Keeps before since × (since_in ≡ before_in))
    ⊎ IsEndCause why rom old_save now_save old_recording now_recording before_in since_in before since

-- ---- the devices that are left

module _ {D E : Type 0} {disk : Ghosts D} {others : Ghosts E} where
  abbrev pub save_left : Result (RecordedGame D E disk others) (RecordRefused D E) → D
  save_left (Ok game) = device_of game.session
  save_left (Err refused) = refused.save

  abbrev pub recording_left : Result (RecordedGame D E disk others) (RecordRefused D E) → E
  recording_left (Ok game) = device_of_recording game.recording
  recording_left (Err refused) = refused.recording
