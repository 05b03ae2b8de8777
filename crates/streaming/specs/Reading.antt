-- How the lines of a stream are read, and what is done for each.
use Rattle.std.specs.Prelude.{◌≡◌, ◌≢◌, ◌⊎◌, ◌<◌, ◌+◌, ◌-◌, ◌^◌, ℕ, Bool, List, [], ◌∷◌, ◌++◌, length, Option, None, Some}
use Rattle.std.specs.Io.KnownBytes.{Consumes, IsAtEnd}
use Rattle.machine.specs.Machine.{MachineState, after}
use Rattle.snapshot.specs.Reading.{machine_in}
use Rattle.state_header.specs.States.{snapshot_in, IsOfAnotherRom}
use Rattle.input_lines.specs.Newlines.{HasNoNewline}
use Rattle.input_lines.specs.Reading.{TakesLine}
use Rattle.input_lines.specs.Given.{Given, IsUnfinished, HasReadGiven}
use Rattle.script.specs.declared.moves.Move.TheVariants.{Power}
use Rattle.machine_lines.specs.KeptStates.{KeptMachine, kept_under}
use Rattle.machine_lines.specs.Taking.{IsNoState}
use Rattle.streaming.specs.Orders.{order_of, asked, Deed, GoesOnWith, IsAskedFor, kept_behind, IsWrong}
use Rattle.streaming.specs.Answers.{inputs_of_deeds}
use Rattle.streaming.specs.Numbers.{IsNumbered}
use Rattle.streaming.specs.declared.order.Order.TheVariants.{Make, Keep, Back, Restore}
use Rattle.streaming.specs.declared.obeying.End.{End as Ending}
use Rattle.streaming.specs.declared.obeying.End.TheVariants.{Whole, Wrong as WrongLine, Failed as FailedRead, Damaged, OtherCartridge, NoMemory}
use Rattle.streaming.specs.declared.next_order.Next.{Next}
use Rattle.streaming.specs.declared.next_order.Next.TheVariants.{Line, Wrong, End, Failed}

-- ---- a line

-- what a line that was taken asks for
abbrev pub IsAsked : (states : Bool) → Next → List ℕ → Type 0
IsAsked states (Line None) line = length line ≡ 0
IsAsked states (Line (Some order)) line = (0 < length line) × (order_of states line ≡ Some order) × IsNumbered order
IsAsked states Wrong line = (0 < length line) × (order_of states line ≡ None)
IsAsked states End line = ⊥
IsAsked states Failed line = ⊥

abbrev pub IsNext : (states : Bool) → Next → (old new since : Option (List ℕ)) → Type 0
IsNext states (Line order) old new since = (line : List ℕ) × HasNoNewline line × IsAsked states (Line order) line × TakesLine line old new
IsNext states Wrong old new since = (line : List ℕ) × IsWrong states line × (TakesLine line old new ⊎ ((64 < length line) × Consumes old new line))
IsNext states End old new since = Consumes old since [] × IsAtEnd since
IsNext states Failed old new since = (rest : List ℕ) × HasNoNewline rest × Consumes old since rest

-- ---- lines

abbrev pub IsEmpty : Given → Type 0
IsEmpty given = (length given.line ≡ 0) × (given.bytes ≡ [])

-- From this machine of a cartridge on: the lines, each empty or with what was done for it, and the machines that are kept then.
pub data Asks (states : Bool) (rom : List ℕ) (start : MachineState) : List Given → List Deed → List KeptMachine → Type 0 where
  no_line : Asks states rom start [] [] []
  by_empty : {lines : List Given} {deeds : List Deed} {kept : List KeptMachine} (given : Given) → Asks states rom start lines deeds kept → IsEmpty given → Asks states rom start (lines ++ given ∷ []) deeds kept
  by_deed : {lines : List Given} {deeds : List Deed} {kept : List KeptMachine} (given : Given) (deed : Deed) → Asks states rom start lines deeds kept → IsAskedFor states rom kept given deed
      → Asks states rom start (lines ++ given ∷ []) (deeds ++ deed ∷ []) (kept_behind (after start (inputs_of_deeds deeds)) kept deed)

-- so it is, or the bytes behind the last line were not looked at
pub data AsksUpTo (states : Bool) (rom : List ℕ) (start : MachineState) : List Given → List Deed → Type 0 where
  all_asked : {lines : List Given} {deeds : List Deed} {kept : List KeptMachine} → Asks states rom start lines deeds kept → AsksUpTo states rom start lines deeds
  by_bytes : {lines : List Given} {deeds : List Deed} {kept : List KeptMachine} (given : Given) (n : ℕ) → Asks states rom start lines deeds kept → order_of states given.line ≡ Some (Restore n) → length given.bytes ≡ n
      → AsksUpTo states rom start (lines ++ given ∷ []) (deeds ++ GoesOnWith (Restore n) (machine_in rom (snapshot_in given.bytes)) ∷ [])

-- ---- ends

-- the line asks for nothing, or for a machine that is not kept
abbrev pub IsWrongAt : (states : Bool) → List KeptMachine → Given → Type 0
IsWrongAt states kept given = (given.bytes ≡ []) × (IsWrong states given.line ⊎ ((k : ℕ) × (order_of states given.line ≡ Some (Back k)) × (kept_under k kept ≡ None)))

-- the bytes behind the line are fewer than it asks for, or no state
abbrev pub IsDamaged : (states : Bool) → (rom : List ℕ) → Given → Type 0
IsDamaged states rom given = (n : ℕ) × (order_of states given.line ≡ Some (Restore n)) × ((length given.bytes ≢ n) ⊎ IsNoState rom given.bytes)

-- they are a state of another cartridge
abbrev pub IsOfAnother : (states : Bool) → (rom : List ℕ) → Given → Type 0
IsOfAnother states rom given = (n : ℕ) × (order_of states given.line ≡ Some (Restore n)) × (length given.bytes ≡ n) × IsOfAnotherRom rom given.bytes

-- the line takes memory: the machine at power-on, or the first one under its number
abbrev pub TakesMemory : (states : Bool) → List KeptMachine → Given → Type 0
TakesMemory states kept given =
    (given.bytes ≡ []) × ((order_of states given.line ≡ Some (Make Power)) ⊎ ((k : ℕ) × (order_of states given.line ≡ Some (Keep k)) × (kept_under k kept ≡ None)))

module _ (states : Bool) (lines : List Given) (before since : Option (List ℕ)) where
  -- these lines were read, and one more
  pub record ReadsOneMore (P : Given → Type 0) : Type 0 where
    pub given : Given
    pub is : P given
    pub more : List ℕ
    pub read : HasReadGiven (asked states) (lines ++ given ∷ []) more before since

  -- and more of a line than it may have
  pub record ReadsTooMuch : Type 0 where
    pub line : List ℕ
    pub one_line : HasNoNewline line
    pub long : 64 < length line
    pub more : List ℕ
    pub read : HasReadGiven (asked states) lines (line ++ more) before since

-- Where a stream ends after these lines, with these machines kept: at the end of its input; at a wrong line, or at that of the greatest
-- number; at a read that failed, in the middle of a line or of the bytes behind it; at bytes that are no state, or one of another cartridge; at a
-- line for which there is no memory.
abbrev pub ReadsTo : (states : Bool) → (rom : List ℕ) → List KeptMachine → Ending → List Given → (before since : Option (List ℕ)) → Type 0
ReadsTo states rom kept Whole lines before since = HasReadGiven (asked states) lines [] before since × IsAtEnd since
ReadsTo states rom kept (WrongLine number) lines before since =
    (number ≡ length lines + 1)
    × (ReadsOneMore states lines before since (IsWrongAt states kept) ⊎ ReadsTooMuch states lines before since
    ⊎ ((number ≡ 2 ^ 64 - 1) × ((more : List ℕ) × HasReadGiven (asked states) lines more before since)))
ReadsTo states rom kept FailedRead lines before since = (rest : List ℕ) × IsUnfinished (asked states) rest × HasReadGiven (asked states) lines rest before since
ReadsTo states rom kept Damaged lines before since = ReadsOneMore states lines before since (IsDamaged states rom)
ReadsTo states rom kept OtherCartridge lines before since = ReadsOneMore states lines before since (IsOfAnother states rom)
ReadsTo states rom kept NoMemory lines before since = ReadsOneMore states lines before since (TakesMemory states kept)
