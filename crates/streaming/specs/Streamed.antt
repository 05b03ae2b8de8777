-- A whole stream: how it went, and where it is refused.
use Rattle.std.specs.Prelude.{◌≡◌, ◌⊎◌, ◌+◌, ℕ, List, [], length, true, Option, Some, Result, Ok, Err}
use Rattle.std.specs.Io.KnownBytes.{Appends}
use Rattle.machine.specs.Machine.{MachineState, after}
use Rattle.snapshot.specs.Legal.{IsMachineOf}
use Rattle.sector_device.specs.DiskState.{DiskState}
use Rattle.sector_device.specs.Runs.{HoldsSince}
use Rattle.log_format.specs.Content.{content}
use Rattle.session.specs.Calls.{faults_after}
use Rattle.session.specs.Stands.{IsAtRest, Position, stands}
use Rattle.session.specs.declared.error.SessionError.{SessionError}
use Rattle.playing.specs.Played.{IsNotTakenUp, IsStop, PlayImage, Reaches}
use Rattle.playing.specs.Report.{HasTold}
use Rattle.playing.specs.Lines.{texts}
use Rattle.input_lines.specs.Given.{Given, HasReadGiven}
use Rattle.machine_lines.specs.KeptStates.{KeptMachine}
use Rattle.streaming.specs.Orders.{Deed, asked}
use Rattle.streaming.specs.Reading.{Asks, AsksUpTo, ReadsTo}
use Rattle.streaming.specs.Answers.{inputs_of_deeds, stream_lines}
use Rattle.streaming.specs.declared.obeying.End.{End}
use Rattle.streaming.specs.declared.obeying.End.TheVariants.{Whole, Wrong, Failed, Damaged, OtherCartridge, NoMemory}
use Rattle.sector_device.specs.declared.device.SectorDevice.{Ghosts}
use Rattle.session.specs.Accessors.{device_of}
use Rattle.session.specs.declared.session.Session.{Session as PlaySession}
use Rattle.streaming.specs.declared.error.StreamError.{StreamError}
use Rattle.sector_device.specs.declared.refused.Refused.{Refused}
use Rattle.streaming.specs.declared.error.StreamError.TheVariants.{Session as NotObeyed, Line as WrongLine, Input as FailedInput, Snapshot as DamagedSnapshot, OtherCartridge as NamesAnother, Memory as LacksMemory}

-- The lines that were read up to this end, and all that they ask for: it was done, answered and saved, from a position that is one of
-- this ROM, and the one that reads of an honest device gave. Each image at each moment stands for what one stood for before, or for some of these inputs.
pub record HasStreamed (rom : List ℕ) (old now : DiskState) (end : End) (before_in since_in before since : Option (List ℕ)) : Type 0 where
  pub from : Position
  pub lines : List Given
  pub deeds : List Deed
  pub kept : List KeptMachine
  pub asks : Asks true rom from.machine lines deeds kept
  pub read : ReadsTo true rom kept end lines before_in since_in
  pub of_rom : IsMachineOf rom from.machine
  pub stood : old.honest → stands rom (content old.sectors) ≡ Some from
  pub answered : Appends before since (texts (stream_lines from deeds))
  pub rests : old.honest → IsAtRest rom now (from.count + length (inputs_of_deeds deeds)) [] (after from.machine (inputs_of_deeds deeds))
  pub images : old.honest → HoldsSince old now (PlayImage rom old (inputs_of_deeds deeds))

-- and this count and this machine are those after all inputs
pub record HasStreamedAll (rom : List ℕ) (old now : DiskState) (count : ℕ) (machine : MachineState) (before_in since_in before since : Option (List ℕ)) : Type 0 where
  pub streamed : HasStreamed rom old now Whole before_in since_in before since
  pub count_is : count ≡ streamed.from.count + length (inputs_of_deeds streamed.deeds)
  pub machine_is : machine ≡ after streamed.from.machine (inputs_of_deeds streamed.deeds)

-- It was taken up, at a position of this ROM, and one of these lines was refused: of what the whole stream of these lines writes the front was written, and each
-- image that is left has all inputs up to each count that this tells.
pub record HasStopped (rom : List ℕ) (old now : DiskState) (why : SessionError) (before_in since_in before since : Option (List ℕ)) : Type 0 where
  pub from : Position
  pub lines : List Given
  pub deeds : List Deed
  pub asks : AsksUpTo true rom from.machine lines deeds
  pub more : List ℕ
  pub read : HasReadGiven (asked true) lines more before_in since_in
  pub of_rom : IsMachineOf rom from.machine
  pub stood : old.honest → stands rom (content old.sectors) ≡ Some from
  pub cause : IsStop why (from.count + length (inputs_of_deeds deeds)) now
  pub least : ℕ
  pub told : HasTold why (from.count + least) (stream_lines from deeds) before since
  pub images : old.honest → HoldsSince old now (PlayImage rom old (inputs_of_deeds deeds))
  pub left : old.honest → (image : List (List ℕ)) → now.image image → Reaches rom from least (inputs_of_deeds deeds) image

-- Why a stream is refused: it was not taken up, with nothing read and nothing written; or a line was refused; or it went up to a wrong
-- line, a read that failed, bytes that are no state or one of another cartridge, or a line for which there is no memory.
abbrev pub IsStreamCause : StreamError → (rom : List ℕ) → (old now : DiskState) → (before_in since_in before since : Option (List ℕ)) → Type 0
IsStreamCause (NotObeyed why) rom old now before_in since_in before since =
    (IsNotTakenUp rom old now why before since × (since_in ≡ before_in)) ⊎ HasStopped rom old now why before_in since_in before since
IsStreamCause (WrongLine number) rom old now before_in since_in before since = HasStreamed rom old now (Wrong number) before_in since_in before since
IsStreamCause FailedInput rom old now before_in since_in before since = HasStreamed rom old now Failed before_in since_in before since
IsStreamCause DamagedSnapshot rom old now before_in since_in before since = HasStreamed rom old now Damaged before_in since_in before since
IsStreamCause NamesAnother rom old now before_in since_in before since = HasStreamed rom old now OtherCartridge before_in since_in before since
IsStreamCause LacksMemory rom old now before_in since_in before since = HasStreamed rom old now NoMemory before_in since_in before since

-- the device's count of failed calls: one more after `Device`, and after no other refusal
abbrev pub faults_after_stream : StreamError → ℕ → ℕ
faults_after_stream (NotObeyed why) faults = faults_after why faults
faults_after_stream (WrongLine number) faults = faults
faults_after_stream FailedInput faults = faults
faults_after_stream DamagedSnapshot faults = faults
faults_after_stream NamesAnother faults = faults
faults_after_stream LacksMemory faults = faults

-- the device that a stream leaves
module _ {D : Type 0} {disk : Ghosts D} where
  abbrev pub left_by : Result (PlaySession D disk) (Refused StreamError D) → D
  left_by (Ok session) = device_of session
  left_by (Err refused) = refused.device
