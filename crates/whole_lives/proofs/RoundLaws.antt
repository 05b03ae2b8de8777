-- What a round is made of: what images hold, the lines that were read, and the moments of its devices.
use Rattle.std.proofs.Common.{◌≡◌, inl, inr, ℕ, ◌≤◌, List, [], ◌++◌, Bool, true, false, Option, Some, None, refl, sym, ap, ◌∙◌, subst, append-nil, append_assoc}
use Rattle.machine.specs.Machine.{Input, MachineState}
use Rattle.sector_device.specs.Memory.{MemoryState, memory_disk}
use Rattle.sector_device.specs.RecordLaws.{counts_last, reads_image}
use Rattle.input_lines.specs.Given.{Given, texts_of, HasReadGiven, IsCutOff}
use Rattle.machine_lines.specs.KeptStates.{KeptMachine}
use Rattle.session.specs.Stands.{Position}
use Rattle.playing.specs.Lines.{Line}
use Rattle.streaming.specs.Answers.{ended, lines_of_deeds}
use Rattle.streaming.specs.Orders.{Deed, asked}
use Rattle.streaming.specs.Reading.{Asks, ReadsTo}
use Rattle.streaming.specs.Reading.AsksUpTo.{all_asked}
use Rattle.streaming.proofs.Wholes.{reads_some}
use Rattle.streaming.specs.declared.obeying.End.{End}
use Rattle.streaming.specs.declared.obeying.End.TheVariants.{Whole, Wrong, Failed, Damaged, OtherCartridge, NoMemory}
use Rattle.replaying.specs.Agreeing.{recorded_inputs}
use Rattle.whole_lives.specs.Lines.{AreDone, Begins}
use Rattle.whole_lives.specs.Devices.{IsRecordedLeft}

-- ---- what images hold

pub none_left : (rom : List ℕ) (recorded : Option (List Input)) → IsRecordedLeft rom None recorded → recorded ≡ None
none_left rom None left = refl
none_left rom (Some recorded) left = absurd left

pub record HoldsRecorded (rom : List ℕ) (recording : MemoryState) (found : Option (List Input)) : Type 0 where
  pub recorded : List Input
  pub is : found ≡ Some recorded
  pub image : List (List ℕ)
  pub stood : (memory_disk recording).image image
  pub recorded_is : recorded_inputs rom image ≡ Some recorded

pub some_left : (rom : List ℕ) (recording : MemoryState) (found : Option (List Input)) → IsRecordedLeft rom (Some recording) found → HoldsRecorded rom recording found
some_left rom recording None left = absurd left
some_left rom recording (Some recorded) left = record { recorded = recorded; is = refl; image = left.0; stood = left.1; recorded_is = left.2 }

-- ---- lines that were read

abbrev pub is_whole : End → Bool
is_whole Whole = true
is_whole (Wrong number) = false
is_whole Failed = false
is_whole Damaged = false
is_whole OtherCartridge = false
is_whole NoMemory = false

module _ (states : Bool) where
  begins : (lines : List Given) (more text unread : List ℕ) → HasReadGiven (asked states) lines more (Some text) (Some unread) → Begins states lines (more ++ unread) text
  begins lines more text unread (inl (whole, read)) = inl (whole, read ∙ append_assoc (texts_of lines) more unread)
  begins lines more text unread (inr (front, cut, none, read, at_end)) =
      let all : text ≡ front = read ∙ ap (λ (l : List ℕ). front ++ l) at_end ∙ append-nil front in
      inr (subst (IsCutOff (asked states) lines) (sym all) cut, ap (λ (l : List ℕ). l ++ unread) none ∙ at_end)

  pub record Unread (lines : List Given) (text : List ℕ) (whole : Bool) : Type 0 where
    pub rest : List ℕ
    pub begins_so : Begins states lines rest text
    pub none : whole ≡ true → rest ≡ []

  -- some bytes more were read
  pub read_more : (lines : List Given) (more text unread : List ℕ) → HasReadGiven (asked states) lines more (Some text) (Some unread) → Unread lines text false
  read_more lines more text unread read = record { rest = more ++ unread; begins_so = begins lines more text unread read; none = λ yes. absurd (cc) }

  -- an end before the end of the input
  read_some : (rom : List ℕ) (kept : List KeptMachine) (end : End) (lines : List Given) (text unread : List ℕ) → ReadsTo states rom kept end lines (Some text) (Some unread) → Unread lines text false
  read_some rom kept end lines text unread read =
      let some = reads_some states rom kept end lines (Some text) (Some unread) read in
      read_more lines some.0 text unread some.1

  pub read_to : (rom : List ℕ) (kept : List KeptMachine) (end : End) (lines : List Given) (text unread : List ℕ) → ReadsTo states rom kept end lines (Some text) (Some unread) → Unread lines text (is_whole end)
  read_to rom kept Whole lines text unread read = record { rest = [] ++ unread; begins_so = begins lines [] text unread read.0; none = λ yes. read.1 }
  read_to rom kept (Wrong number) lines text unread read = read_some rom kept (Wrong number) lines text unread read
  read_to rom kept Failed lines text unread read = read_some rom kept Failed lines text unread read
  read_to rom kept Damaged lines text unread read = read_some rom kept Damaged lines text unread read
  read_to rom kept OtherCartridge lines text unread read = read_some rom kept OtherCartridge lines text unread read
  read_to rom kept NoMemory lines text unread read = read_some rom kept NoMemory lines text unread read

-- ---- lines that are told

-- those behind the first
abbrev pub told_by : Position → List Deed → List Line
told_by from deeds = lines_of_deeds from.machine from.count 0 (ended 0 deeds)

-- all of them, where an end is whole
pub done_by : (whole states : Bool) (rom : List ℕ) (start : MachineState) (lines : List Given) (deeds : List Deed) (kept : List KeptMachine) → Asks states rom start lines deeds kept → AreDone whole states rom start lines deeds
done_by true states rom start lines deeds kept asks = (kept, asks)
done_by false states rom start lines deeds kept asks = all_asked asks

-- ---- moments

module _ (m : MemoryState) where
  pub counts : (t : ℕ) (image : List (List ℕ)) → t ≤ (memory_disk m).moment → (memory_disk m).image image → (memory_disk m).since t image
  counts t image le now = counts_last m.at_start m.recorded t image le now

  pub reads : (memory_disk m).image (memory_disk m).sectors
  reads = reads_image m.at_start m.recorded
