-- The statuses of the program: 0 done, 1 refused, 2 words not understood.
use Rattle.std.specs.Prelude.{◌≡◌, ◌≤◌, ◌↔◌, ◌≢◌, ◌⊎◌, ◌++◌, ℕ, List, codes, Option, None, Some, Result, Ok, Err, ⊤, Bool, true, false, IfSome}
use Rattle.std.specs.Borrow.{Bor}
use Rattle.std.specs.Io.KnownBytes.{Appends, Keeps}
use Rattle.exact_text.specs.Written.{AppendsProperPrefix}
use Rattle.cartridge.specs.Accepted.{refusal_of}
use Rattle.clap.specs.Words.{HasKind, fault_of, kind_of}
use Rattle.clap.specs.declared.error.kind.ErrorKind.{ErrorKind}
use Rattle.clap.specs.declared.error.kind.ErrorKind.TheVariants.{DisplayHelp, DisplayVersion, OutOfMemory}
use Rattle.command_line.specs.Commands.{gbkeep as command}
use Rattle.command_line.specs.Words.{AsksFor, AskForSome, Word as WordText}
use Rattle.command_line.specs.declared.Request.{Request}
use Rattle.command_line.specs.declared.Request.TheVariants.{Info, List as Listing, Step, New, Play, Frame, Trace, Stream, NewRecording, Record, Recorded, Verify, Test, Show, Export, Import, Debug}
use Rattle.sector_device.specs.declared.device.DeviceFault.TheVariants.{Device as FailedDevice}
use Rattle.session.specs.declared.error.SessionError.TheVariants.{Output as GameOutput}
use Rattle.refusals.specs.Statuses.{status_of}
use Rattle.refusals.specs.Texts.{text_of}
use Rattle.gbkeep.specs.declared.words.Asked.{Asked}
use Rattle.gbkeep.specs.declared.words.Asked.TheVariants.{Command, Help, Misuse, OutOfRange}
use Rattle.commands.specs.declared.error.CommandError.{CommandError}
use Rattle.commands.specs.declared.error.CommandError.TheVariants.{Cart as NoCartridge, Script as WrongScript, Session as NoGame, Stream as StreamEnded, Recording as NoTape, Verify as NotVerified, Debug as DebugEnded, Memory as CommandMemory, Output as CommandOutput}
use Rattle.refusals.specs.declared.refusal.Refusal.{Refusal}
use Rattle.test_run.specs.declared.error.TestError.TheVariants.{Cart as TestCart, Script as TestScript, Memory as TestMemory, Output as TestOutput}
use Rattle.test_run.specs.declared.verdict.Verdict.TheVariants.{Passed, Failed, Undecided}
use Rattle.test_run.specs.Refusals.{IsTested, IsTestRefused}
use Rattle.recorded_play.specs.declared.error.RecordError.TheVariants.{Session as RecordSession, Recording as RecordRecording, Behind as RecordBehind}
use Rattle.debugging.specs.declared.error.DebugError.TheVariants.{Input as DebugInput, Output as DebugOutput, Memory as DebugMemory}
use Rattle.sector_device.specs.DiskState.{DiskState}
use Rattle.replaying.specs.Verifying.{IsVerifyCause}
use Rattle.replaying.specs.declared.error.VerifyError.TheVariants.{Save as NoSave, Recording as NoRecording, Behind as RecordingBehind, Ahead as RecordingAhead, Memory as NoMemory, Differ as MachinesDiffer}
use Rattle.streaming.specs.declared.obeying.End.TheVariants.{Whole, Wrong as WrongLine, Failed as FailedRead, Damaged as DamagedBytes, OtherCartridge as BytesOfAnother, NoMemory as LackedMemory}
use Rattle.streaming.specs.declared.error.StreamError.TheVariants.{Session as StreamSession, Line as StreamLine, Input as StreamInput, Snapshot as StreamSnapshot, OtherCartridge as StreamOtherCartridge, Memory as StreamMemory}
use Rattle.refusals.specs.declared.refusal.Refusal.TheVariants.{Cart, Memory, File, Output, Address, Word, Device, Script, Session, Line, Input, NoState, OtherState, Recording, Behind, Ahead, Differ, OtherRecording, RecordedGame, TestFailed, TestUndecided, NoBattery, BatteryLength}
use Rattle.script.specs.Script.{IsRefused as IsScriptRefused}
use Rattle.input_entries.specs.Inputs.{inputs}
use Rattle.input_entries.specs.declared.Entry.{Entry}
use Rattle.recording.specs.Recorded.{entries}
use Rattle.recording_marks.specs.Digests.{IsKnown, IsOther, digest_of}
use Rattle.recording_marks.specs.declared.knowing.Known.{Known}
use Rattle.recording_marks.specs.declared.text.Mark.{Mark}
use Rattle.recording_marks.specs.declared.text.Mark.TheVariants.{Remembered}
use Rattle.commands.specs.Text.{Text, IsUnread, IsUnwritten}
use Rattle.gbkeep.specs.Request.{HasAddress, HasDevice, HasScript, OfAFile, IsDone, IsCompared, GivesInputs, IsGameRefused, IsMemoryRefused, IsOutputRefused, IsRecordingRefused, IsTestDecided, IsWithoutBattery, IsOtherLength, IsScriptOf, imports_to_battery_name, IsStreamStopped, IsStreamedTo, IsNotBelonging, IsRecordStopped, IsRecordedTo, record_limits, IsDebugged, IsDebugStopped, IsDebugUnbegun, IsDebugNotTakenUp}

-- what a command that was refused is for the program
abbrev pub refusal_of_command : CommandError → Refusal
refusal_of_command (NoCartridge fault) = Cart fault
refusal_of_command (WrongScript fault) = Script fault
refusal_of_command (NoGame fault) = Session fault
refusal_of_command (StreamEnded (StreamSession fault)) = Session fault
refusal_of_command (StreamEnded (StreamLine number)) = Line number
refusal_of_command (StreamEnded StreamInput) = Input
refusal_of_command (StreamEnded StreamSnapshot) = NoState
refusal_of_command (StreamEnded StreamOtherCartridge) = OtherState
refusal_of_command (StreamEnded StreamMemory) = Memory
refusal_of_command (NoTape fault) = Recording fault
refusal_of_command (NotVerified (NoSave fault)) = Session fault
refusal_of_command (NotVerified (NoRecording fault)) = Recording fault
refusal_of_command (NotVerified (RecordingBehind count)) = Behind count
refusal_of_command (NotVerified (RecordingAhead count)) = Ahead count
refusal_of_command (NotVerified NoMemory) = Memory
refusal_of_command (NotVerified MachinesDiffer) = Differ
refusal_of_command (DebugEnded DebugInput) = Input
refusal_of_command (DebugEnded DebugOutput) = Output
refusal_of_command (DebugEnded DebugMemory) = Memory
refusal_of_command CommandMemory = Memory
refusal_of_command CommandOutput = Output

-- a test of this ROM with this script was done, or it was refused
abbrev pub IsTestServed : (rom text : List ℕ) → (frames : ℕ) → Result Unit Refusal → Option (List ℕ) → Option (List ℕ) → Type 0
IsTestServed rom text frames (Ok u) old new = IsTested rom text frames old new Passed
IsTestServed rom text frames (Err TestFailed) old new = IsTested rom text frames old new Failed
IsTestServed rom text frames (Err TestUndecided) old new = IsTested rom text frames old new Undecided
IsTestServed rom text frames (Err (Cart fault)) old new = IsTestRefused rom text frames old new (TestCart fault)
IsTestServed rom text frames (Err (Script fault)) old new = IsTestRefused rom text frames old new (TestScript fault)
IsTestServed rom text frames (Err Memory) old new = IsTestRefused rom text frames old new TestMemory
IsTestServed rom text frames (Err Output) old new = IsTestRefused rom text frames old new TestOutput
IsTestServed rom text frames (Err fault) old new = ⊥

-- why the files of a game and its recording are not opened
abbrev pub IsPairFault : Refusal → Type 0
IsPairFault File = ⊤
IsPairFault (Device fault) = ⊤
IsPairFault fault = ⊥

-- why a recording is not taken for that of a game
abbrev pub IsNotOf : (rom : List ℕ) → (game tape : DiskState) → Refusal → Type 0
IsNotOf rom game tape Memory = ⊤
IsNotOf rom game tape (Session why) = (game.honest → tape.honest → IsVerifyCause (Some record_limits) rom game tape (NoSave why)) × (why ≢ GameOutput)
IsNotOf rom game tape (Recording why) = game.honest → tape.honest → IsVerifyCause (Some record_limits) rom game tape (NoRecording why)
IsNotOf rom game tape (Behind count) = game.honest → tape.honest → IsVerifyCause (Some record_limits) rom game tape (RecordingBehind count)
IsNotOf rom game tape (Ahead count) = game.honest → tape.honest → IsVerifyCause (Some record_limits) rom game tape (RecordingAhead count)
IsNotOf rom game tape Differ = game.honest → tape.honest → IsVerifyCause (Some record_limits) rom game tape MachinesDiffer
IsNotOf rom game tape fault = ⊥

-- what a mark knows of the recording, where it does
abbrev pub known_by : Option Mark → Option Known
known_by (Some (Remembered known)) = Some known
known_by said = None

-- a game with so many inputs is taken up with this recording: its first inputs are those that the mark knew, and this is what the mark is
-- to know of it from now on
pub record IsRemembered (said : Option Mark) (count : ℕ) (known : Known) (tape : List Entry) : Type 0 where
  pub was : IfSome (known_by said) (λ before. IsKnown before tape)
  pub count_is : known.count ≡ count
  pub digest_is : known.digest ≡ digest_of count tape

-- why a recording is not taken for the one that the mark knows
abbrev pub IsNotMarked : (said : Option Mark) → (tape : DiskState) → Refusal → Type 0
IsNotMarked said tape Memory = ⊤
IsNotMarked said tape (Device fault) = fault ≡ FailedDevice
IsNotMarked said tape OtherRecording = tape.honest → IsOther (known_by said) (inputs (entries tape.sectors))
IsNotMarked said tape fault = ⊥

-- its line on standard error
abbrev pub line_of : Refusal → List ℕ
line_of fault = codes "gbkeep: " ++ (text_of fault ++ codes "\n")

-- what the program reads and writes
pub record Exchange : Type 0 where
  pub input : Text
  pub output : Text
  pub errors : Text
  -- whether a read of the input, and a write to the output, has failed by the end
  pub input_failed : Bool
  pub output_failed : Bool

-- the line went out, or a proper prefix of it; nothing is said of a line that is not given, as of `clap`'s text
abbrev pub HasLine : Option (List ℕ) → Option (List ℕ) → Option (List ℕ) → Type 0
HasLine None old new = ⊤
HasLine (Some line) old new = Appends old new line ⊎ AppendsProperPrefix old new line

abbrev pub warning_line : List ℕ
warning_line = codes "gbkeep: warning: other emulators write battery files of this name\n"

-- what goes to standard error where a request was done
abbrev pub HasWarned : (is_due : Bool) → Text → Type 0
HasWarned false errors = IsUnwritten errors
HasWarned true errors = HasLine (Some warning_line) errors.before errors.since

-- where words are not understood, nothing goes to the output
abbrev pub KeepsAtMisuse : Option (List ℕ) → Option (List ℕ) → ℕ → Type 0
KeepsAtMisuse old new status = status ≡ 2 → Keeps old new

-- a fault that is told as `output failed`
abbrev pub IsOutputFault : Refusal → Type 0
IsOutputFault Output = ⊤
IsOutputFault (Session GameOutput) = ⊤
IsOutputFault fault = ⊥

-- one that says so of the output, not of a file that a picture is written to
abbrev pub TellsOutput : Request → Refusal → Type 0
TellsOutput (Frame cart save out) Output = ⊥
TellsOutput request fault = IsOutputFault fault

-- why a request was refused, and what went out then
abbrev pub IsRefused : Request → Refusal → Option (List ℕ) → Option (List ℕ) → Type 0
IsRefused request (Cart fault) old new = HasAddress request × Keeps old new × ((rom : List ℕ) × (refusal_of rom ≡ Some fault))
IsRefused request Memory old new = HasAddress request × IsMemoryRefused request old new
IsRefused request File old new = HasAddress request × Keeps old new
IsRefused request Output old new = HasAddress request × IsOutputRefused request old new
IsRefused request Address old new = (¬ (HasAddress request)) × Keeps old new
IsRefused request (Device fault) old new = HasDevice request × Keeps old new
IsRefused request (Script fault) old new = HasScript request × Keeps old new × ((text : List ℕ) × IsScriptOf request text × IsScriptRefused text fault)
IsRefused request (Session fault) old new = IsGameRefused request fault old new
IsRefused request (Recording fault) old new = IsRecordingRefused request fault old new
IsRefused request (Behind count) old new = IsCompared request (RecordingBehind count) old new
IsRefused request Differ old new = IsCompared request MachinesDiffer old new
IsRefused request RecordedGame old new = GivesInputs request × Keeps old new
IsRefused request TestFailed old new = IsTestDecided request Failed old new
IsRefused request TestUndecided old new = IsTestDecided request Undecided old new
IsRefused request NoBattery old new = IsWithoutBattery request old new
IsRefused request (BatteryLength found needed) old new = IsOtherLength request found needed old new
IsRefused request fault old new = ⊥

-- a request that reads no input was done or refused
abbrev pub IsServed : Request → Result Unit Refusal → Option (List ℕ) → Option (List ℕ) → Type 0
IsServed request (Ok u) old new = IsDone request old new
IsServed request (Err fault) old new = IsRefused request fault old new

-- why a stream was refused, and what was read and went out then
abbrev pub IsStreamRefused : Refusal → (input output : Text) → Type 0
IsStreamRefused (Cart fault) input output = IsUnread input × IsUnwritten output × ((rom : List ℕ) × (refusal_of rom ≡ Some fault))
IsStreamRefused Memory input output = (IsUnread input × IsUnwritten output) ⊎ IsStreamedTo LackedMemory input output
IsStreamRefused File input output = IsUnread input × IsUnwritten output
IsStreamRefused (Device fault) input output = IsUnread input × IsUnwritten output
IsStreamRefused (Session why) input output = IsStreamStopped why input output
IsStreamRefused (Line number) input output = IsStreamedTo (WrongLine number) input output
IsStreamRefused Input input output = IsStreamedTo FailedRead input output
IsStreamRefused NoState input output = IsStreamedTo DamagedBytes input output
IsStreamRefused OtherState input output = IsStreamedTo BytesOfAnother input output
IsStreamRefused RecordedGame input output = IsUnread input × IsUnwritten output
IsStreamRefused fault input output = ⊥

-- a stream was done or refused
abbrev pub IsStreamServed : Result Unit Refusal → (input output : Text) → Type 0
IsStreamServed (Ok u) input output = IsStreamedTo Whole input output
IsStreamServed (Err fault) input output = IsStreamRefused fault input output

-- why a recorded play was refused, and what was read and went out then
abbrev pub IsRecordRefused : Refusal → (input output : Text) → Type 0
IsRecordRefused (Cart fault) input output = IsUnread input × IsUnwritten output × ((rom : List ℕ) × (refusal_of rom ≡ Some fault))
IsRecordRefused Memory input output = IsUnread input × IsUnwritten output
IsRecordRefused File input output = IsUnread input × IsUnwritten output
IsRecordRefused (Device fault) input output = IsUnread input × IsUnwritten output
IsRecordRefused (Session why) input output = IsRecordStopped (RecordSession why) input output ⊎ IsNotBelonging (NoSave why) input output
IsRecordRefused (Line number) input output = IsRecordedTo (WrongLine number) input output
IsRecordRefused Input input output = IsRecordedTo FailedRead input output
IsRecordRefused (Recording fault) input output = IsRecordStopped (RecordRecording fault) input output ⊎ IsNotBelonging (NoRecording fault) input output
IsRecordRefused (Behind count) input output = IsRecordStopped (RecordBehind count) input output ⊎ IsNotBelonging (RecordingBehind count) input output
IsRecordRefused (Ahead count) input output = IsNotBelonging (RecordingAhead count) input output
IsRecordRefused Differ input output = IsNotBelonging MachinesDiffer input output
IsRecordRefused OtherRecording input output = IsUnread input × IsUnwritten output
    × ((said : Option Mark) × OfAFile (λ tape. tape.honest → IsOther (known_by said) (inputs (entries tape.sectors))))
IsRecordRefused fault input output = ⊥

-- a recorded play was done or refused
abbrev pub IsRecordServed : Result Unit Refusal → (input output : Text) → Type 0
IsRecordServed (Ok u) input output = IsRecordedTo Whole input output
IsRecordServed (Err fault) input output = IsRecordRefused fault input output

-- why a debugger was not begun or stopped, and what was read and went out then
abbrev pub IsDebugRefused : (save : Option (Bor (List ℕ))) → Refusal → (input output : Text) → Type 0
IsDebugRefused save (Cart fault) input output = IsUnread input × IsUnwritten output × ((rom : List ℕ) × (refusal_of rom ≡ Some fault))
IsDebugRefused save Memory input output = (IsUnread input × IsUnwritten output) ⊎ IsDebugStopped save DebugMemory input output
IsDebugRefused save File input output = IsUnread input × IsUnwritten output
IsDebugRefused save Output input output = IsDebugStopped save DebugOutput input output
IsDebugRefused save (Device fault) input output = IsDebugUnbegun save input output
IsDebugRefused save (Session why) input output = IsDebugNotTakenUp save why input output
IsDebugRefused save Input input output = IsDebugStopped save DebugInput input output
IsDebugRefused save fault input output = ⊥

-- a debugger answered all lines, or was refused
abbrev pub IsDebugServed : (save : Option (Bor (List ℕ))) → Result Unit Refusal → (input output : Text) → Type 0
IsDebugServed save (Ok u) input output = IsDebugged save input output
IsDebugServed save (Err fault) input output = IsDebugRefused save fault input output

-- ---- any request: only a stream, a recorded play and a debugger read the input

abbrev pub IsDoneReading : Request → (input output : Text) → Type 0
IsDoneReading (Info cart) input output = IsUnread input × IsDone (Info cart) output.before output.since
IsDoneReading (Listing cart address count) input output = IsUnread input × IsDone (Listing cart address count) output.before output.since
IsDoneReading (Step cart count) input output = IsUnread input × IsDone (Step cart count) output.before output.since
IsDoneReading (New cart save sectors) input output = IsUnread input × IsDone (New cart save sectors) output.before output.since
IsDoneReading (Play cart save script) input output = IsUnread input × IsDone (Play cart save script) output.before output.since
IsDoneReading (Frame cart save out) input output = IsUnread input × IsDone (Frame cart save out) output.before output.since
IsDoneReading (Trace cart save count) input output = IsUnread input × IsDone (Trace cart save count) output.before output.since
IsDoneReading (Stream cart save) input output = IsStreamedTo Whole input output
IsDoneReading (NewRecording cart recording sectors) input output = IsUnread input × IsDone (NewRecording cart recording sectors) output.before output.since
IsDoneReading (Record cart save recording) input output = IsRecordedTo Whole input output
IsDoneReading (Recorded cart recording) input output = IsUnread input × IsDone (Recorded cart recording) output.before output.since
IsDoneReading (Test cart frames script) input output = IsUnread input × IsDone (Test cart frames script) output.before output.since
IsDoneReading (Verify cart save recording) input output = IsUnread input × IsDone (Verify cart save recording) output.before output.since
IsDoneReading (Show cart save) input output = IsUnread input × IsDone (Show cart save) output.before output.since
IsDoneReading (Export cart save out) input output = IsUnread input × IsDone (Export cart save out) output.before output.since
IsDoneReading (Import cart battery save sectors) input output = IsUnread input × IsDone (Import cart battery save sectors) output.before output.since
IsDoneReading (Debug cart save) input output = IsDebugged save input output

abbrev pub IsRefusedReading : Request → Refusal → (input output : Text) → Type 0
IsRefusedReading (Info cart) fault input output = IsUnread input × IsRefused (Info cart) fault output.before output.since
IsRefusedReading (Listing cart address count) fault input output = IsUnread input × IsRefused (Listing cart address count) fault output.before output.since
IsRefusedReading (Step cart count) fault input output = IsUnread input × IsRefused (Step cart count) fault output.before output.since
IsRefusedReading (New cart save sectors) fault input output = IsUnread input × IsRefused (New cart save sectors) fault output.before output.since
IsRefusedReading (Play cart save script) fault input output = IsUnread input × IsRefused (Play cart save script) fault output.before output.since
IsRefusedReading (Frame cart save out) fault input output = IsUnread input × IsRefused (Frame cart save out) fault output.before output.since
IsRefusedReading (Trace cart save count) fault input output = IsUnread input × IsRefused (Trace cart save count) fault output.before output.since
IsRefusedReading (Stream cart save) fault input output = IsStreamRefused fault input output
IsRefusedReading (NewRecording cart recording sectors) fault input output = IsUnread input × IsRefused (NewRecording cart recording sectors) fault output.before output.since
IsRefusedReading (Record cart save recording) fault input output = IsRecordRefused fault input output
IsRefusedReading (Recorded cart recording) fault input output = IsUnread input × IsRefused (Recorded cart recording) fault output.before output.since
IsRefusedReading (Test cart frames script) fault input output = IsUnread input × IsRefused (Test cart frames script) fault output.before output.since
IsRefusedReading (Verify cart save recording) fault input output = IsUnread input × IsRefused (Verify cart save recording) fault output.before output.since
IsRefusedReading (Show cart save) fault input output = IsUnread input × IsRefused (Show cart save) fault output.before output.since
IsRefusedReading (Export cart save out) fault input output = IsUnread input × IsRefused (Export cart save out) fault output.before output.since
IsRefusedReading (Import cart battery save sectors) fault input output = IsUnread input × IsRefused (Import cart battery save sectors) fault output.before output.since
IsRefusedReading (Debug cart save) fault input output = IsDebugRefused save fault input output

abbrev pub IsServedReading : Request → Result Unit Refusal → (input output : Text) → Type 0
IsServedReading request (Ok u) input output = IsDoneReading request input output
IsServedReading request (Err fault) input output = IsRefusedReading request fault input output

-- `clap` answers this where help or the version is asked for
abbrev pub is_help : ErrorKind → Bool
is_help DisplayHelp = true
is_help DisplayVersion = true
is_help kind = false

-- What the words ask for: the request that they are, or, where they ask for none, `clap`'s text, which is help or says what is not
-- understood; or memory was wanted.
abbrev pub IsReading : List WordText → Result Asked Refusal → Type 0
IsReading words (Ok (Command request)) = AsksFor words request
IsReading words (Ok (Help text)) = (¬ (AskForSome words)) × HasKind (fault_of command words) text × (is_help (kind_of text) ≡ true)
IsReading words (Ok (Misuse text)) =
    (¬ (AskForSome words)) × HasKind (fault_of command words) text × (is_help (kind_of text) ≡ false) × (kind_of text ≢ OutOfMemory)
IsReading words (Ok OutOfRange) = ⊥
IsReading words (Err Memory) = ⊤
IsReading words (Err fault) = ⊥

-- what can come of words at all; one may also be no text
abbrev pub IsPossible : Result Asked Refusal → Type 0
IsPossible (Ok asked) = ⊤
IsPossible (Err Memory) = ⊤
IsPossible (Err Word) = ⊤
IsPossible (Err fault) = ⊥

-- words that are not understood
abbrev pub IsMisuse : Result Asked Refusal → Type 0
IsMisuse (Ok (Command request)) = ¬ (HasAddress request)
IsMisuse (Ok (Help text)) = ⊥
IsMisuse (Ok (Misuse text)) = ⊤
IsMisuse (Ok OutOfRange) = ⊤
IsMisuse (Err fault) = fault ≡ Word

-- what was asked for was done; nothing is said of what goes out where that is help
abbrev pub IsFulfilled : Result Asked Refusal → (input output : Text) → Type 0
IsFulfilled (Ok (Command request)) input output = IsDoneReading request input output
IsFulfilled (Ok (Help text)) input output = IsUnread input
IsFulfilled asked input output = ⊥

-- standard error has nothing, or the warning of a name
abbrev pub IsWarned : Result Asked Refusal → (errors : Text) → Type 0
IsWarned (Ok (Command request)) errors = HasWarned (imports_to_battery_name request) errors
IsWarned asked errors = IsUnwritten errors

-- this fault is why it was not done
abbrev pub IsFaultOf : Result Asked Refusal → Refusal → (input output : Text) → Type 0
IsFaultOf (Ok (Command request)) fault input output = IsRefusedReading request fault input output
IsFaultOf (Ok (Help text)) fault input output = IsUnread input × (fault ≡ Output)
IsFaultOf (Err why) fault input output = IsUnread input × (fault ≡ why) × IsUnwritten output
IsFaultOf asked fault input output = ⊥

-- what it tells as failed has failed
abbrev pub IsTrueOf : Result Asked Refusal → Refusal → Exchange → Type 0
IsTrueOf (Ok (Command request)) fault run = (TellsOutput request fault → run.output_failed ≡ true) × (fault ≡ Input → run.input_failed ≡ true)
IsTrueOf (Ok (Help text)) fault run = run.output_failed ≡ true
IsTrueOf asked fault run = ⊤

-- the line where the words are not understood; None where `clap` gives the text
abbrev pub misuse_line : Result Asked Refusal → Option (List ℕ)
misuse_line (Ok (Command request)) = Some (line_of Address)
misuse_line (Ok asked) = None
misuse_line (Err fault) = Some (line_of fault)

-- The program ended with this status on what was asked for.
pub record HasEnded (asked : Result Asked Refusal) (run : Exchange) (status : ℕ) : Type 0 where
  pub done : status ≡ 0 → IsFulfilled asked run.input run.output × IsWarned asked run.errors
  pub refused : status ≡ 1 →
      (fault : Refusal) × (status_of fault ≡ 1) × IsFaultOf asked fault run.input run.output × HasLine (Some (line_of fault)) run.errors.before run.errors.since
      × IsTrueOf asked fault run
  pub misuse : (status ≡ 2) ↔ IsMisuse asked
  pub misused : status ≡ 2 → IsUnread run.input × IsUnwritten run.output × HasLine (misuse_line asked) run.errors.before run.errors.since
  pub bound : status ≤ 2

-- it ended so on what these words ask for
abbrev pub Ends : List WordText → Exchange → ℕ → Type 0
Ends words run status = (asked : Result Asked Refusal) × IsReading words asked × HasEnded asked run status

-- it ended so on some words, or one of them is no text
abbrev pub EndsOnSome : Exchange → ℕ → Type 0
EndsOnSome run status = ((words : List WordText) × Ends words run status) ⊎ HasEnded (Err Word) run status
