-- What lines ask for of a game, as `stream` reads them, or `record` where there is a recording; and why these refuse them.
use Rattle.std.specs.Prelude.{◌≡◌, ◌⊎◌, ℕ, List, [], ◌∷◌, ◌++◌, Bool, true, false, Option, Some, None, All}
use Rattle.machine.specs.Machine.{Input, MachineState}
use Rattle.machine_lines.specs.KeptStates.{KeptMachine}
use Rattle.sector_device.specs.Memory.{MemoryState, memory_disk}
use Rattle.session.specs.Stands.{Position}
use Rattle.playing.specs.Lines.{Line, resumed_line}
use Rattle.input_lines.specs.Given.{Given, texts_of, IsWhole, IsCutOff}
use Rattle.streaming.specs.Orders.{Deed, asked}
use Rattle.streaming.specs.Reading.{Asks, AsksUpTo}
use Rattle.streaming.specs.Answers.{inputs_of_deeds, stream_lines}
use Rattle.streaming.specs.Streamed.{HasStreamed, IsStreamCause}
use Rattle.streaming.specs.declared.obeying.End.TheVariants.{Whole}
use Rattle.recorded_play.specs.Whole.{HasRecorded, IsRecordCause}
use Rattle.whole_lives.specs.Devices.{Memories}
use Rattle.whole_lives.specs.declared.error.LifeError.{LifeError}
use Rattle.whole_lives.specs.declared.error.LifeError.TheVariants.{Stream, Record}

-- these lines, each with its newline, and then the rest; the last line of a text may lack its newline
abbrev pub Begins : (states : Bool) → (lines : List Given) → (rest text : List ℕ) → Type 0
Begins states lines rest text = (All (IsWhole (asked states)) lines × (text ≡ texts_of lines ++ rest)) ⊎ (IsCutOff (asked states) lines text × (rest ≡ []))

-- what is done for these lines: all of it, where a round is whole
abbrev pub AreDone : (whole states : Bool) → (rom : List ℕ) → MachineState → List Given → List Deed → Type 0
AreDone true states rom start lines deeds = (kept : List KeptMachine) × Asks states rom start lines deeds kept
AreDone false states rom start lines deeds = AsksUpTo states rom start lines deeds

-- The lines of the text up to the unread rest: none of them is wrong, and these inputs and lines are those of what is done for them.
pub record AskByLines (whole states : Bool) (rom : List ℕ) (from : Position) (text unread : List ℕ) (inputs : List Input) (told : List Line) : Type 0 where
  pub lines : List Given
  pub deeds : List Deed
  pub begins : Begins states lines unread text
  pub asks : AreDone whole states rom from.machine lines deeds
  pub inputs_are : inputs ≡ inputs_of_deeds deeds
  pub told_are : resumed_line from.count ∷ told ≡ stream_lines from deeds

-- a stream of this text came to its end, or where there is a recording, a recorded play
abbrev pub IsObeyed : (rom : List ℕ) → (old_save : MemoryState) → (old_recording : Option MemoryState) → (save : MemoryState) → (recording : Option MemoryState) → (text unread report : List ℕ) → Type 0
IsObeyed rom old None save None text unread report = HasStreamed rom (memory_disk old) (memory_disk save) Whole (Some text) (Some unread) (Some []) (Some report)
IsObeyed rom old (Some old_recording) save (Some recording) text unread report =
    HasRecorded rom (memory_disk old) (memory_disk save) (memory_disk old_recording) (memory_disk recording) Whole (Some text) (Some unread) (Some []) (Some report)
IsObeyed rom old old_recording save recording text unread report = ⊥

pub record ObeyLines (rom : List ℕ) (old now : Memories) (text report : List ℕ) : Type 0 where
  pub unread : List ℕ
  pub all : IsObeyed rom old.save old.recording now.save now.recording text unread report

-- a stream of this text refused it, or where there is a recording, a recorded play
abbrev pub IsCause : LifeError → (rom : List ℕ) → (old_save : MemoryState) → (old_recording : Option MemoryState) → (left_save : MemoryState) → (left_recording : Option MemoryState)
    → (text unread report : List ℕ) → Type 0
IsCause (Stream why) rom old None left None text unread report = IsStreamCause why rom (memory_disk old) (memory_disk left) (Some text) (Some unread) (Some []) (Some report)
IsCause (Record why) rom old (Some recording) left (Some left_recording) text unread report =
    IsRecordCause why rom (memory_disk old) (memory_disk left) (memory_disk recording) (memory_disk left_recording) (Some text) (Some unread) (Some []) (Some report)
IsCause why rom old recording left left_recording text unread report = ⊥

pub record RefuseLines (rom : List ℕ) (old left : Memories) (text report : List ℕ) (why : LifeError) : Type 0 where
  pub unread : List ℕ
  pub cause : IsCause why rom old.save old.recording left.save left.recording text unread report
