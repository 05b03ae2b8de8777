-- What a life of a game is, whatever was cut in it: of a SAVE alone, or of a SAVE and a recording of its inputs.
use Rattle.std.specs.Prelude.{◌≡◌, ◌≤◌, ◌-◌, ℕ, List, [], ◌∷◌, ◌++◌, length, take, drop, Bool, true, Option, Some, None, is_none, All, ⊤}
use Rattle.machine.specs.Machine.{Input, after, start}
use Rattle.session.specs.Stands.{Position, behind}
use Rattle.playing.specs.Lines.{Line, resumed_line, texts}

-- what the files of a game hold: the position that the SAVE stands for, and the inputs of its recording, where it has one
pub record Files : Type 0 where
  pub save : Position
  pub recorded : Option (List Input)

-- the position after all inputs that are recorded
abbrev pub end_of : (rom : List ℕ) → (recorded : List Input) → Position
end_of rom recorded = record { count = length recorded; machine = after (start rom) recorded }

-- where a game goes on that is taken up: at the end of its recording, where it has one
abbrev pub taken_up_at : (rom : List ℕ) → Position → Option (List Input) → Position
taken_up_at rom save None = save
taken_up_at rom save (Some recorded) = end_of rom recorded

abbrev pub position : (rom : List ℕ) → Files → Position
position rom files = taken_up_at rom files.save files.recorded

-- the power switch and other machines are inputs only of a game that is not recorded
abbrev pub takes_states : Files → Bool
takes_states files = is_none files.recorded

-- the machine of the SAVE is the one after the first of the recorded inputs from power-on
pub record IsRecorded (rom : List ℕ) (save : Position) (recorded : List Input) : Type 0 where
  pub enough : save.count ≤ length recorded
  pub machine_is : save.machine ≡ after (start rom) (take save.count recorded)

abbrev pub AgreesWith : (rom : List ℕ) → Position → Option (List Input) → Type 0
AgreesWith rom save None = ⊤
AgreesWith rom save (Some recorded) = IsRecorded rom save recorded

abbrev pub Agree : (rom : List ℕ) → Files → Type 0
Agree rom files = AgreesWith rom files.save files.recorded

-- ---- a round

-- What a text asks for of a game that goes on at a position, where so much of it is left unread: its inputs, and the lines that are told
-- of them; of a round that is whole, all was done. A life is one whatever this is; each player says what it is of its own.
abbrev pub Asking : Type 1
Asking = (whole states : Bool) → (rom : List ℕ) → (from : Position) → (text unread : List ℕ) → List Input → List Line → Type 0

-- what was played in a round
pub record Played : Type 0 where
  -- what was given, and the inputs that it asked for
  pub text : List ℕ
  pub inputs : List Input
  -- its report, and the lines of it
  pub report : List ℕ
  pub told : List Line
  -- how many of its inputs the cut kept
  pub kept : ℕ
  -- whether it came to its end before the cut
  pub whole : Bool

-- those that are kept
abbrev pub kept_of : Played → List Input
kept_of round = take round.kept round.inputs

-- the SAVE went on, if at all, with what then is recorded
pub record Follows (recorded : List Input) (first last : Position) : Type 0 where
  pub later : first.count ≤ last.count
  pub enough : last.count ≤ length recorded
  pub machine_is : last.machine ≡ after first.machine (take (last.count - first.count) (drop first.count recorded))

-- What the files hold once these inputs are kept: a SAVE alone has them all; where a recording has them, the SAVE may be behind.
abbrev pub GoesOn : Option (List Input) → (kept : List Input) → (first : Position) → (last : Files) → Type 0
GoesOn None kept first last = (last.save ≡ behind first kept) × (last.recorded ≡ None)
GoesOn (Some recorded) kept first last = (last.recorded ≡ Some (recorded ++ kept)) × Follows (recorded ++ kept) first last.save

-- nothing that it was given was left unread, untold, or unsaved
pub record IsWhole (rom : List ℕ) (round : Played) (unread : List ℕ) (untold : List Line) (last : Files) : Type 0 where
  pub read : unread ≡ []
  pub told : untold ≡ []
  pub kept : kept_of round ≡ round.inputs
  pub saved : last.save.count ≡ (position rom last).count

-- A round that was played from what the files hold at first, and what its cut left of them.
pub record IsRound (asks : Asking) (rom : List ℕ) (round : Played) (first last : Files) : Type 0 where
  pub unread : List ℕ
  pub lines : List Line
  pub asked : asks round.whole (takes_states first) rom (position rom first) round.text unread round.inputs lines
  -- it told the first of the line of where it goes on, and of these lines
  pub untold : List Line
  pub told_are : resumed_line (position rom first).count ∷ lines ≡ round.told ++ untold
  pub report_is : round.report ≡ texts round.told
  -- the SAVE has all inputs up to each count that it told
  pub are_saved : All (λ line. line.told ≤ last.save.count) round.told
  -- the files have what they had, and the first of the inputs
  pub goes_on : GoesOn first.recorded (kept_of round) first.save last
  pub whole : round.whole ≡ true → IsWhole rom round unread untold last

-- ---- a life

-- each round begins with what the cut of the one before it left
abbrev pub IsLife : (asks : Asking) → (rom : List ℕ) → List Played → (first last : Files) → Type 0
IsLife asks rom [] first last = last ≡ first
IsLife asks rom (round ∷ rounds) first last = (next : Files) × IsRound asks rom round first next × IsLife asks rom rounds next last
