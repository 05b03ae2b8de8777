-- The report of a play.
use Rattle.std.specs.Prelude.{◌≡◌, ◌==◌, ◌<◌, ◌≤◌, ◌+◌, ℕ, List, [], ◌∷◌, ◌++◌, length, take, replicate, if◌then◌else◌, Option, All}
use Rattle.std.specs.Io.KnownBytes.{Appends}
use Rattle.machine.specs.Machine.{Input}
use Rattle.machine.specs.Machine.{Frame}
use Rattle.script.specs.declared.moves.Move.{Move}
use Rattle.script.specs.declared.moves.Move.TheVariants.{Frames, Seconds, Save, Power}
use Rattle.script.specs.Inputs.{inputs_of_move, inputs_of_moves}
use Rattle.session.specs.Calls.{most_unsaved}
use Rattle.playing.specs.Lines.{Line, resumed_line, saved_line, texts}
use Rattle.session.specs.declared.error.SessionError.{SessionError}
use Rattle.session.specs.declared.error.SessionError.TheVariants.{Output}

-- ---- of inputs

-- a save is due right after the input that makes 3,200 unsaved
abbrev pub unsaved_after : ℕ → ℕ
unsaved_after unsaved = if unsaved + 1 == most_unsaved then 0 else unsaved + 1

abbrev pub line_due : (unsaved count : ℕ) → List Line
line_due unsaved count = if unsaved + 1 == most_unsaved then saved_line count ∷ [] else []

-- from a count of inputs of which so many are unsaved: how many are unsaved after these
abbrev pub unsaved_behind : ℕ → List Input → ℕ
unsaved_behind unsaved [] = unsaved
unsaved_behind unsaved (i ∷ inputs) = unsaved_behind (unsaved_after unsaved) inputs

-- and the lines of the saves that are due among them
abbrev pub lines_of_inputs : (count unsaved : ℕ) → List Input → List Line
lines_of_inputs count unsaved [] = []
lines_of_inputs count unsaved (i ∷ inputs) = line_due unsaved (count + 1) ++ lines_of_inputs (count + 1) (unsaved_after unsaved) inputs

-- ---- of moves

abbrev pub unsaved_behind_move : ℕ → Move → ℕ
unsaved_behind_move unsaved (Frames buttons times) = unsaved_behind unsaved (replicate times (Frame buttons))
unsaved_behind_move unsaved (Seconds n) = unsaved_after unsaved
unsaved_behind_move unsaved Save = 0
unsaved_behind_move unsaved Power = unsaved_after unsaved

-- a save is due at each `Save`
abbrev pub lines_of_move : (count unsaved : ℕ) → Move → List Line
lines_of_move count unsaved (Frames buttons times) = lines_of_inputs count unsaved (replicate times (Frame buttons))
lines_of_move count unsaved (Seconds n) = line_due unsaved (count + 1)
lines_of_move count unsaved Save = saved_line count ∷ []
lines_of_move count unsaved Power = line_due unsaved (count + 1)

abbrev pub unsaved_behind_moves : ℕ → List Move → ℕ
unsaved_behind_moves unsaved [] = unsaved
unsaved_behind_moves unsaved (m ∷ moves) = unsaved_behind_moves (unsaved_behind_move unsaved m) moves

abbrev pub lines_of_moves : (count unsaved : ℕ) → List Move → List Line
lines_of_moves count unsaved [] = []
lines_of_moves count unsaved (m ∷ moves) = lines_of_move count unsaved m ++ lines_of_moves (count + length (inputs_of_move m)) (unsaved_behind_move unsaved m) moves

-- at the end a save is due if any is unsaved
abbrev pub last_line : (count unsaved : ℕ) → List Line
last_line count unsaved = if unsaved == 0 then [] else saved_line count ∷ []

-- ---- of a play

-- the lines of a play that is taken up at this count
abbrev pub report_lines : ℕ → List Move → List Line
report_lines count moves =
    resumed_line count ∷ (lines_of_moves count 0 moves ++ last_line (count + length (inputs_of_moves moves)) (unsaved_behind_moves 0 moves))

-- the whole report
abbrev pub report_of : ℕ → List Move → List ℕ
report_of count moves = texts (report_lines count moves)

-- ---- cut short

-- what was written of the first of these lines: a proper prefix where the output failed, else nothing
abbrev pub IsPart : SessionError → List Line → List ℕ → Type 0
IsPart Output (line ∷ rest) part = (count : ℕ) × (count < length line.text) × (part ≡ take count line.text)
IsPart Output [] part = ⊥
IsPart why rest part = part ≡ []

-- A report of these lines was cut short: the first of them were written whole, each telling a count that was then saved, and of
-- the next nothing, or a proper prefix where the output failed.
pub record HasTold (why : SessionError) (saved : ℕ) (lines : List Line) (old new : Option (List ℕ)) : Type 0 where
  pub whole : List Line
  pub rest : List Line
  pub lines_are : lines ≡ whole ++ rest
  pub are_saved : All (λ line. line.told ≤ saved) whole
  pub part : List ℕ
  pub part_is : IsPart why rest part
  pub text : Appends old new (texts whole ++ part)
