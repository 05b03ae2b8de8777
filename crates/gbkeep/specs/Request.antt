-- What a request wants of a ROM, and when the program has done it.
use Rattle.std.specs.Prelude.{◌≡◌, ◌⊎◌, ◌≤◌, ◌<◌, ◌++◌, ℕ, List, [], length, codes, decimal, Bool, true, false, ◌==◌, ◌||◌, Option, None, Some, unwrap_or, ⊤}
use Rattle.std.specs.List.{ends_with}
use Rattle.std.specs.Str.Parse.{IsNumeral, digits_value}
use Rattle.std.specs.Borrow.{Bor}
use Rattle.std.specs.Io.KnownBytes.{Appends, Keeps}
use Rattle.exact_text.specs.Written.{AppendsProperPrefix}
use Rattle.cartridge.specs.Accepted.{IsAccepted}
use Rattle.cartridge.specs.Header.{has_battery, ram_length_of}
use Rattle.command_line.specs.declared.Request.{Request}
use Rattle.commands.specs.declared.error.CommandError.TheVariants.{Session as NoGame, Stream as StreamEnded, Recording as NoTape, Verify as NotVerified, Debug as DebugEnded, Output as Unwritten}
use Rattle.command_line.specs.declared.Request.TheVariants.{Info, List as Listing, Step, New, Play, Frame, Trace, Stream, NewRecording, Record, Recorded, Verify, Test, Show, Export, Import, Debug}
use Rattle.machine.specs.Machine.{MachineState, start}
use Rattle.snapshot.specs.Encoding.{snapshot_length}
use Rattle.log_format.specs.Content.{need}
use Rattle.sector_device.specs.DiskState.{DiskState}
use Rattle.sector_device.specs.FileDevice.{file_disk}
use Rattle.sector_device.specs.declared.file.FileDevice.{FileDevice}
use Rattle.recording.specs.declared.fault.RecordingFault.{RecordingFault}
use Rattle.recording.specs.declared.fault.RecordingFault.TheVariants.{Memory, Device, TooSmall}
use Rattle.recorded_play.specs.Whole.{HasRecorded, IsRecordCause}
use Rattle.recorded_play.specs.declared.error.RecordError.{RecordError}
use Rattle.replaying.specs.Verifying.{IsVerifiedWithin, IsVerifyCause}
use Rattle.replaying.specs.declared.verifying.Limits.{Limits}
use Rattle.replaying.specs.declared.error.VerifyError.{VerifyError}
use Rattle.replaying.specs.declared.error.VerifyError.TheVariants.{Save as NoSave, Recording as NoRecording}
use Rattle.gbkeep.specs.NewFiles.{IsNewRecording}
use Rattle.commands.specs.Recorded.{HasWrittenScript, IsScriptCause}
use Rattle.commands.specs.Verify.{HasAgreed, IsLineCause}
use Rattle.session.specs.Stands.{IsAtRest}
use Rattle.session.specs.declared.error.SessionError.{SessionError}
use Rattle.session.specs.Found.{IsNewGameCause}
use Rattle.streaming.specs.Streamed.{HasStreamed}
use Rattle.streaming.specs.declared.error.StreamError.TheVariants.{Session as StreamSession}
use Rattle.streaming.specs.declared.obeying.End.{End}
use Rattle.debugger.specs.Listing.{lines_from}
use Rattle.test_run.specs.Refusals.{IsTested, IsCutOff, IsSwitchedOff}
use Rattle.test_run.specs.declared.verdict.Verdict.{Verdict}
use Rattle.test_run.specs.declared.verdict.Verdict.TheVariants.{Passed}
use Rattle.commands.specs.Show.{HasShown, IsShowCause}
use Rattle.battery_files.specs.Exporting.{IsExportCause, IsExported}
use Rattle.refusals.specs.declared.refusal.Refusal.TheVariants.{Session as NotLookedAt}
use Rattle.battery_files.specs.Importing.{is_taken_length, start_with}
use Rattle.gbkeep.specs.Beginning.{begun_line}
use Rattle.commands.specs.Info.{info_of}
use Rattle.commands.specs.Play.{IsPlayCause, IsPlayedWhole}
use Rattle.commands.specs.Step.{line_after}
use Rattle.commands.specs.Stream.{IsStreamPlayCause}
use Rattle.commands.specs.Text.{Text, IsUnread, IsUnwritten, call_on}
use Rattle.commands.specs.Trace.{HasTraced, IsTraceCause}
use Rattle.debugging.specs.Run.{begun}
use Rattle.debugging.specs.Debugged.{Exchange as Exchanged, HasAnsweredAll, IsDebugCause}
use Rattle.debugging.specs.declared.error.DebugError.{DebugError}
use Rattle.commands.specs.Debug.{HasDebugged, IsDebugGameCause}

-- how many sectors a new game's file has: as many as the words say, or else as many as a game of this ROM needs
abbrev pub sectors_for : List ℕ → Option ℕ → ℕ
sectors_for rom sectors = unwrap_or sectors (need (snapshot_length (ram_length_of rom)))

-- one to four hexadecimal digits
abbrev pub IsAddress : List ℕ → Type 0
IsAddress text = (length text ≤ 4) × IsNumeral 16 text

-- where a request has an address, its text is one
abbrev pub HasAddress : Request → Type 0
HasAddress (Info cart) = Unit {0}
HasAddress (Listing cart address count) = IsAddress address.now
HasAddress (Step cart count) = Unit {0}
HasAddress (New cart save sectors) = Unit {0}
HasAddress (Play cart save script) = Unit {0}
HasAddress (Frame cart save out) = Unit {0}
HasAddress (Trace cart save count) = Unit {0}
HasAddress (Stream cart save) = Unit {0}
HasAddress (NewRecording cart recording sectors) = Unit {0}
HasAddress (Record cart save recording) = Unit {0}
HasAddress (Recorded cart recording) = Unit {0}
HasAddress (Verify cart save recording) = Unit {0}
HasAddress (Test cart frames script) = Unit {0}
HasAddress (Show cart save) = Unit {0}
HasAddress (Export cart save out) = Unit {0}
HasAddress (Import cart battery save sectors) = Unit {0}
HasAddress (Debug cart save) = Unit {0}

-- what it prints of a ROM; not here what is of a game or a recording of the ROM, nor what is answered to lines
abbrev pub printed : Request → List ℕ → List ℕ
printed (Info cart) rom = info_of rom
printed (Listing cart address count) rom = lines_from (start rom) (digits_value 16 address.now) count
printed (Step cart count) rom = line_after rom count
printed (New cart save sectors) rom = []
printed (Play cart save script) rom = []
printed (Frame cart save out) rom = []
printed (Trace cart save count) rom = []
printed (Stream cart save) rom = []
printed (NewRecording cart recording sectors) rom = []
printed (Record cart save recording) rom = []
printed (Recorded cart recording) rom = []
printed (Verify cart save recording) rom = []
printed (Test cart frames script) rom = []
printed (Show cart save) rom = []
printed (Export cart save out) rom = []
printed (Import cart battery save sectors) rom = []
printed (Debug cart save) rom = []

-- ---- files. No clause can say which file a word names: so each is the device over some file, of which what a call on it promises holds.

-- the device over some file has P
abbrev pub OfAFile : (DiskState → Type 0) → Type 0
OfAFile P = (file : FileDevice) × P (file_disk file)

-- that over some file as it was opened, and as the call on it left it
abbrev pub OfAFileSince : (DiskState → DiskState → Type 0) → Type 0
OfAFileSince P = (file left : FileDevice) × P (file_disk file) (file_disk left)

-- those over a SAVE and over a recording
abbrev pub OfAPair : (DiskState → DiskState → Type 0) → Type 0
OfAPair P = (save recording : FileDevice) × P (file_disk save) (file_disk recording)

-- and as the call on both left them
abbrev pub OfAPairSince : (DiskState → DiskState → DiskState → DiskState → Type 0) → Type 0
OfAPairSince P = (save now_save recording now_recording : FileDevice) × P (file_disk save) (file_disk now_save) (file_disk recording) (file_disk now_recording)

-- ---- what a request begins, in a file that is made

-- it has so many sectors, and is at rest with the game of this ROM that begins with this machine
abbrev pub IsGameBegun : (rom : List ℕ) → (sectors : ℕ) → MachineState → DiskState → Type 0
IsGameBegun rom sectors machine now = (length now.sectors ≡ sectors) × IsAtRest rom now 0 [] machine

-- it has so many sectors, and is a recording of this ROM without inputs
abbrev pub IsRecordingBegun : (rom : List ℕ) → (sectors : ℕ) → DiskState → Type 0
IsRecordingBegun rom sectors now = (length now.sectors ≡ sectors) × IsNewRecording rom now

-- this battery file is taken, and the device, whose sectors stay, is at rest with the game that begins with its RAM and its clocks
pub record IsImported (rom kept : List ℕ) (old now : DiskState) : Type 0 where
  pub battery : has_battery rom ≡ true
  pub taken : is_taken_length rom (length kept) ≡ true
  pub count : length now.sectors ≡ length old.sectors
  pub rests : IsAtRest rom now 0 [] (start_with rom kept)

-- so many sectors are enough for a game of this ROM
abbrev pub IsEnough : (rom : List ℕ) → (sectors : ℕ) → Type 0
IsEnough rom sectors = need (snapshot_length (ram_length_of rom)) ≤ sectors

-- the game begins at power-on, or with the RAM and the clocks of a battery file that is taken
abbrev pub HasBegun : Request → (rom : List ℕ) → Type 0
HasBegun (New cart save sectors) rom =
    IsEnough rom (sectors_for rom sectors) × OfAFile (IsGameBegun rom (sectors_for rom sectors) (start rom))
HasBegun (Import cart battery save sectors) rom = IsEnough rom (sectors_for rom sectors) × (has_battery rom ≡ true)
    × ((kept : List ℕ) × (is_taken_length rom (length kept) ≡ true) × OfAFile (IsGameBegun rom (sectors_for rom sectors) (start_with rom kept)))
HasBegun (NewRecording cart recording sectors) rom = (2 ≤ sectors) × OfAFile (IsRecordingBegun rom sectors)
HasBegun request rom = ⊥

-- ---- what was done

-- the line of a game whose battery file was written
abbrev pub exported_line : ℕ → List ℕ
exported_line count = codes "exported " ++ (decimal count ++ codes "\n")

-- a count of inputs, of whose line P holds; if the device is honest, it is that of the game that it stands for, and there is a battery file of this
abbrev pub HasExported : (rom : List ℕ) → DiskState → (List ℕ → Type 0) → Type 0
HasExported rom old P = (count : ℕ) × (old.honest → (bytes : List ℕ) × IsExported rom old.sectors count bytes) × P (exported_line count)

-- some battery file is taken for this cartridge
abbrev pub IsBatteryTaken : (rom : List ℕ) → Type 0
IsBatteryTaken rom = (has_battery rom ≡ true) × ((battery : List ℕ) × (is_taken_length rom (length battery) ≡ true))

-- the text of the script that a test is given: none where it names none
abbrev pub IsGiven : Option (Bor (List ℕ)) → (text : List ℕ) → Type 0
IsGiven None text = text ≡ []
IsGiven (Some path) text = Unit {0}

-- It was done on this ROM; what reads the input has words of its own below.
abbrev pub IsDoneOn : List ℕ → Request → Option (List ℕ) → Option (List ℕ) → Type 0
IsDoneOn rom (Play cart save script) old new = (text : List ℕ) × OfAFileSince (λ was now. IsPlayedWhole rom text (call_on was now old new))
IsDoneOn rom (Frame cart save out) old new = OfAFileSince (λ was now. IsPlayedWhole rom [] (call_on was now old new))
IsDoneOn rom (Trace cart save count) old new = IsAccepted rom × OfAFileSince (λ was now. HasTraced rom was now count old new)
IsDoneOn rom (Stream cart save) old new = ⊥
IsDoneOn rom (Record cart save recording) old new = ⊥
IsDoneOn rom (Debug cart save) old new = ⊥
IsDoneOn rom (New cart save sectors) old new = IsAccepted rom × HasBegun (New cart save sectors) rom × Appends old new begun_line
IsDoneOn rom (NewRecording cart recording sectors) old new = IsAccepted rom × HasBegun (NewRecording cart recording sectors) rom × Appends old new begun_line
IsDoneOn rom (Recorded cart recording) old new = IsAccepted rom × OfAFile (λ was. was.honest → HasWrittenScript rom was old new)
IsDoneOn rom (Verify cart save recording) old new = IsAccepted rom × ((count : ℕ) × OfAPair (λ game tape. HasAgreed rom game tape count old new))
IsDoneOn rom (Test cart frames script) old new = (text : List ℕ) × IsGiven script text × IsTested rom text frames old new Passed
IsDoneOn rom (Show cart save) old new = IsAccepted rom × OfAFile (λ was. HasShown rom was old new)
IsDoneOn rom (Export cart save out) old new = IsAccepted rom × (has_battery rom ≡ true) × OfAFile (λ was. HasExported rom was (Appends old new))
IsDoneOn rom (Import cart battery save sectors) old new = IsAccepted rom × HasBegun (Import cart battery save sectors) rom × Appends old new begun_line
IsDoneOn rom request old new = IsAccepted rom × HasAddress request × Appends old new (printed request rom)

-- it was done, on what its file gave
abbrev pub IsDone : Request → Option (List ℕ) → Option (List ℕ) → Type 0
IsDone request old new = (rom : List ℕ) × IsDoneOn rom request old new

-- it names a save file or a recording
abbrev pub HasDevice : Request → Type 0
HasDevice (New cart save sectors) = Unit {0}
HasDevice (Play cart save script) = Unit {0}
HasDevice (Frame cart save out) = Unit {0}
HasDevice (Trace cart save count) = Unit {0}
HasDevice (Stream cart save) = Unit {0}
HasDevice (NewRecording cart recording sectors) = Unit {0}
HasDevice (Record cart save recording) = Unit {0}
HasDevice (Recorded cart recording) = Unit {0}
HasDevice (Verify cart save recording) = Unit {0}
HasDevice (Show cart save) = Unit {0}
HasDevice (Export cart save out) = Unit {0}
HasDevice (Import cart battery save sectors) = Unit {0}
HasDevice (Debug cart (Some save)) = Unit {0}
HasDevice request = ⊥

-- it plays a script, which is empty where it names none
abbrev pub HasScript : Request → Type 0
HasScript (Play cart save script) = Unit {0}
HasScript (Frame cart save out) = Unit {0}
HasScript (Test cart frames script) = Unit {0}
HasScript request = ⊥

-- other emulators keep a battery file under such a name
abbrev pub is_battery_name : List ℕ → Bool
is_battery_name name = ends_with (λ one other. one == other) name (codes ".sav") || ends_with (λ one other. one == other) name (codes ".srm")

-- it makes a SAVE of such a name from a battery file
abbrev pub imports_to_battery_name : Request → Bool
imports_to_battery_name (Import cart battery save sectors) = is_battery_name save.now
imports_to_battery_name request = false

-- this is the text of the script that it names, or of none
abbrev pub IsScriptOf : Request → (text : List ℕ) → Type 0
IsScriptOf (Test cart frames script) text = IsGiven script text
IsScriptOf (Frame cart save out) text = text ≡ []
IsScriptOf request text = Unit {0}

-- it gives a game inputs, and reads none of its lines from the input
abbrev pub GivesInputs : Request → Type 0
GivesInputs (Play cart save script) = Unit {0}
GivesInputs request = ⊥

-- why a game and its recording don't agree, or are not compared; nothing went out
abbrev pub IsCompared : Request → VerifyError → Option (List ℕ) → Option (List ℕ) → Type 0
IsCompared (Verify cart save recording) why old new = (rom : List ℕ) × OfAPair (λ game tape. IsLineCause rom game tape old new (NotVerified why))
IsCompared request why old new = ⊥

-- why no game is begun, taken up or looked at, and then nothing went out; or why a play ended, and then its report was cut short
abbrev pub IsGameRefused : Request → SessionError → Option (List ℕ) → Option (List ℕ) → Type 0
IsGameRefused (New cart save sectors) why old new =
    Keeps old new × ((rom : List ℕ) × IsAccepted rom × IsNewGameCause (snapshot_length (ram_length_of rom)) (sectors_for rom sectors) why)
IsGameRefused (Play cart save script) why old new =
    (rom text : List ℕ) × OfAFileSince (λ was now. IsPlayCause rom text (call_on was now old new) (NoGame why))
IsGameRefused (Frame cart save out) why old new = (rom : List ℕ) × OfAFileSince (λ was now. IsPlayCause rom [] (call_on was now old new) (NoGame why))
IsGameRefused (Trace cart save count) why old new =
    (rom : List ℕ) × OfAFileSince (λ was now. IsTraceCause rom count (call_on was now old new) (NoGame why))
IsGameRefused (Verify cart save recording) why old new = IsCompared (Verify cart save recording) (NoSave why) old new
IsGameRefused (Show cart save) why old new = (rom : List ℕ) × OfAFile (λ was. IsShowCause rom was old new (NoGame why))
IsGameRefused (Export cart save out) why old new = Keeps old new × ((rom : List ℕ) × OfAFile (λ was. IsExportCause rom was (NotLookedAt why)))
IsGameRefused (Import cart battery save sectors) why old new = Keeps old new
    × ((rom : List ℕ) × IsAccepted rom × IsBatteryTaken rom × IsNewGameCause (snapshot_length (ram_length_of rom)) (sectors_for rom sectors) why)
IsGameRefused request why old new = ⊥

-- why no recording is begun, on a file of so many sectors; nothing is said of running out of memory
abbrev pub IsNewRecordingCause : (sectors : ℕ) → RecordingFault → Type 0
IsNewRecordingCause sectors Memory = ⊤
IsNewRecordingCause sectors TooSmall = sectors < 2
IsNewRecordingCause sectors Device = 2 ≤ sectors
IsNewRecordingCause sectors why = ⊥

-- why no recording is begun, read or compared; nothing went out, unless a call failed while a recording was written
abbrev pub IsRecordingRefused : Request → RecordingFault → Option (List ℕ) → Option (List ℕ) → Type 0
IsRecordingRefused (NewRecording cart recording sectors) why old new =
    Keeps old new × ((rom : List ℕ) × IsAccepted rom) × IsNewRecordingCause sectors why
IsRecordingRefused (Recorded cart recording) why old new = (rom : List ℕ) × OfAFile (λ was. IsScriptCause rom was old new (NoTape why))
IsRecordingRefused (Verify cart save recording) why old new = IsCompared (Verify cart save recording) (NoRecording why) old new
IsRecordingRefused request why old new = ⊥

-- a test was run, all of its text went out, and this is its verdict
abbrev pub IsTestDecided : Request → Verdict → Option (List ℕ) → Option (List ℕ) → Type 0
IsTestDecided (Test cart frames script) verdict old new = (rom text : List ℕ) × IsGiven script text × IsTested rom text frames old new verdict
IsTestDecided request verdict old new = ⊥

-- the cartridge has no battery, and nothing went out
abbrev pub IsWithoutBattery : Request → Option (List ℕ) → Option (List ℕ) → Type 0
IsWithoutBattery (Export cart save out) old new = Keeps old new × ((rom : List ℕ) × IsAccepted rom × (has_battery rom ≡ false))
IsWithoutBattery (Import cart battery save sectors) old new = Keeps old new × ((rom : List ℕ) × IsAccepted rom × (has_battery rom ≡ false))
IsWithoutBattery request old new = ⊥

-- a battery file of so many bytes is not taken, where the RAM has so many, and nothing went out
abbrev pub IsOtherLength : Request → (found needed : ℕ) → Option (List ℕ) → Option (List ℕ) → Type 0
IsOtherLength (Import cart battery save sectors) found needed old new = Keeps old new
    × ((rom : List ℕ) × IsAccepted rom × (has_battery rom ≡ true) × (is_taken_length rom found ≡ false) × (needed ≡ ram_length_of rom))
IsOtherLength request found needed old new = ⊥

-- the output failed on a ROM that is accepted: a proper prefix of the text went out, or before a picture the whole report. A report ends
-- as a game that is refused.
abbrev pub IsOutputRefused : Request → Option (List ℕ) → Option (List ℕ) → Type 0
IsOutputRefused (Info cart) old new = (rom : List ℕ) × IsAccepted rom × AppendsProperPrefix old new (printed (Info cart) rom)
IsOutputRefused (Listing cart address count) old new =
    (rom : List ℕ) × IsAccepted rom × AppendsProperPrefix old new (printed (Listing cart address count) rom)
IsOutputRefused (Step cart count) old new = (rom : List ℕ) × IsAccepted rom × AppendsProperPrefix old new (printed (Step cart count) rom)
IsOutputRefused (New cart save sectors) old new =
    (rom : List ℕ) × IsAccepted rom × HasBegun (New cart save sectors) rom × AppendsProperPrefix old new begun_line
IsOutputRefused (Frame cart save out) old new = (rom : List ℕ) × OfAFileSince (λ was now. IsPlayCause rom [] (call_on was now old new) Unwritten)
IsOutputRefused (Trace cart save count) old new =
    (rom : List ℕ) × OfAFileSince (λ was now. IsTraceCause rom count (call_on was now old new) Unwritten)
IsOutputRefused (NewRecording cart recording sectors) old new =
    (rom : List ℕ) × IsAccepted rom × HasBegun (NewRecording cart recording sectors) rom × AppendsProperPrefix old new begun_line
IsOutputRefused (Test cart frames script) old new = (rom text : List ℕ) × IsGiven script text × IsCutOff rom text frames old new
IsOutputRefused (Recorded cart recording) old new = (rom : List ℕ) × OfAFile (λ was. IsScriptCause rom was old new Unwritten)
IsOutputRefused (Verify cart save recording) old new = (rom : List ℕ) × OfAPair (λ game tape. IsLineCause rom game tape old new Unwritten)
IsOutputRefused (Show cart save) old new = (rom : List ℕ) × OfAFile (λ was. IsShowCause rom was old new Unwritten)
IsOutputRefused (Export cart save out) old new =
    (rom : List ℕ) × IsAccepted rom × (has_battery rom ≡ true) × OfAFile (λ was. HasExported rom was (AppendsProperPrefix old new))
IsOutputRefused (Import cart battery save sectors) old new =
    (rom : List ℕ) × IsAccepted rom × HasBegun (Import cart battery save sectors) rom × AppendsProperPrefix old new begun_line
IsOutputRefused request old new = ⊥

-- there was no memory, and nothing was written; or none for a power switch of a test's script
abbrev pub IsMemoryRefused : Request → Option (List ℕ) → Option (List ℕ) → Type 0
IsMemoryRefused (Test cart frames script) old new = Keeps old new ⊎ ((rom text : List ℕ) × IsGiven script text × IsSwitchedOff rom text frames old new)
IsMemoryRefused request old new = Keeps old new

-- ---- a stream, a recorded play and a debugger, the only requests that read the input

-- all that the lines up to this end ask for was done and answered
abbrev pub IsStreamedTo : End → (input output : Text) → Type 0
IsStreamedTo end input output = (rom : List ℕ) × IsAccepted rom
    × OfAFileSince (λ was now. HasStreamed rom was now end input.before input.since output.before output.since)

-- why the game was not taken up, with nothing read and nothing written; or why a line was refused, with what was answered up to there
abbrev pub IsStreamStopped : SessionError → (input output : Text) → Type 0
IsStreamStopped why input output = (rom : List ℕ)
    × OfAFileSince (λ was now. IsStreamPlayCause rom input (call_on was now output.before output.since) (StreamEnded (StreamSession why)))

-- ---- a recorded play

-- a recording has at most 3,200 inputs beyond its game, and a game of so many inputs or fewer is replayed
abbrev pub limits_up_to : (replayed : ℕ) → Limits
limits_up_to replayed = record { beyond = 3200; replayed = replayed }

-- how far `record` compares before it takes a game up
abbrev pub record_limits : Limits
record_limits = limits_up_to 20000

-- As far as these limits go, the recording is that of the game: it has the inputs that the game has, and not too many beyond them; and where they
-- are no more than are replayed, they lead from power-on to the game's machine.
pub record Belongs (limits : Limits) (rom : List ℕ) (game tape : DiskState) : Type 0 where
  pub count : ℕ
  pub verified : game.honest → tape.honest → IsVerifiedWithin (Some limits) rom game.sectors tape.sectors count

-- the recording is that of the game, and all that the lines up to this end ask for was done and answered
abbrev pub IsRecordedTo : End → (input output : Text) → Type 0
IsRecordedTo end input output = (rom : List ℕ) × IsAccepted rom
    × OfAPairSince (λ was now tape new_tape. Belongs record_limits rom was tape
    × HasRecorded rom was now tape new_tape end input.before input.since output.before output.since)

-- The recording is that of the game; and why it was not taken up, with nothing read and nothing written, or why a line was refused, with what was
-- answered up to there.
abbrev pub IsRecordStopped : RecordError → (input output : Text) → Type 0
IsRecordStopped why input output = (rom : List ℕ) × IsAccepted rom
    × OfAPairSince (λ was now tape new_tape. Belongs record_limits rom was tape
    × IsRecordCause why rom was now tape new_tape input.before input.since output.before output.since)

-- why the recording can't be that of the game, as far as they are compared before the game is taken up: nothing was read, and nothing went out
abbrev pub IsNotBelonging : VerifyError → (input output : Text) → Type 0
IsNotBelonging why input output = IsUnread input × IsUnwritten output
    × ((rom : List ℕ) × IsAccepted rom × OfAPair (λ game tape. game.honest → tape.honest → IsVerifyCause (Some record_limits) rom game tape why))

-- ---- a debugger, from power-on or over a game

abbrev pub exchange_of : (input output : Text) → Exchanged
exchange_of input output = record { unread = input.before; left = input.since; before = output.before; since = output.since }

-- all lines were answered
abbrev pub IsDebugged : (save : Option (Bor (List ℕ))) → (input output : Text) → Type 0
IsDebugged None input output = (rom : List ℕ) × IsAccepted rom × HasAnsweredAll (begun (start rom)) (exchange_of input output)
IsDebugged (Some save) input output = (rom : List ℕ) × IsAccepted rom × OfAFileSince (λ was now. HasDebugged rom was now (exchange_of input output))

-- or not all, for this cause
abbrev pub IsDebugStopped : (save : Option (Bor (List ℕ))) → DebugError → (input output : Text) → Type 0
IsDebugStopped None why input output = (rom : List ℕ) × IsAccepted rom × IsDebugCause why (begun (start rom)) (exchange_of input output)
IsDebugStopped (Some save) why input output =
    (rom : List ℕ) × OfAFileSince (λ was now. IsDebugGameCause rom was now (exchange_of input output) (DebugEnded why))

-- a file that a game was to be debugged in was not opened: nothing was read, and nothing went out
abbrev pub IsDebugUnbegun : (save : Option (Bor (List ℕ))) → (input output : Text) → Type 0
IsDebugUnbegun None input output = ⊥
IsDebugUnbegun (Some save) input output = IsUnread input × IsUnwritten output

-- why a game that was to be debugged was not taken up
abbrev pub IsDebugNotTakenUp : (save : Option (Bor (List ℕ))) → SessionError → (input output : Text) → Type 0
IsDebugNotTakenUp None why input output = ⊥
IsDebugNotTakenUp (Some save) why input output =
    (rom : List ℕ) × OfAFileSince (λ was now. IsDebugGameCause rom was now (exchange_of input output) (NoGame why))
