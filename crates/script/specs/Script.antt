-- A script: lines that end with a newline, which the last one may lack. Empty lines are counted and skipped.
use Rattle.std.specs.Prelude.{◌≡◌, ℕ, ◌+◌, ◌==◌, List, [], ◌∷◌, length, nat_le, if◌then◌else◌, Option, None, Some, Result, Ok, Err, IsOk}
use Rattle.std.specs.List.{slice_split}
use Rattle.script.specs.declared.moves.Move.{Move}
use Rattle.script.specs.declared.error.ScriptError.{ScriptError}
use Rattle.script.specs.declared.error.ScriptError.TheVariants.{Script, Memory}
use Rattle.script.specs.Line.{move_of_line}

-- what stands between the newlines; behind a last newline one empty line more, which is skipped
abbrev pub lines_of : List ℕ → List (List ℕ)
lines_of script = slice_split (λ byte. byte == 10) script

abbrev pub with_move : Move → Result (List Move) ℕ → Result (List Move) ℕ
with_move move (Ok moves) = Ok (move ∷ moves)
with_move move (Err number) = Err number

-- the move of the line with this number, and then the others; a wrong line ends it
abbrev pub with_line : ℕ → Option Move → Result (List Move) ℕ → Result (List Move) ℕ
with_line number None others = Err number
with_line number (Some move) others = with_move move others

-- the moves of lines, the first of which has this number, or the number of the first wrong line
unfoldable pub moves_from : ℕ → List (List ℕ) → Result (List Move) ℕ
moves_from number [] = Ok []
moves_from number (line ∷ lines) =
    if length line == 0 then moves_from (number + 1) lines
    else with_line number (move_of_line line) (moves_from (number + 1) lines)

-- the moves of a script, or the number of its first wrong line, counted from 1; 0 where it has more than 1,048,576 bytes
abbrev pub moves_of : List ℕ → Result (List Move) ℕ
moves_of script = if nat_le (length script) 1048576 then moves_from 1 (lines_of script) else Err 0

-- why a script is refused; memory is wanted only for one with no wrong line
abbrev pub IsRefused : List ℕ → ScriptError → Type 0
IsRefused script (Script number) = moves_of script ≡ Err number
IsRefused script Memory = IsOk (moves_of script)

-- there are moves, and this is how many
abbrev pub CountsMoves : ℕ → Result (List Move) ℕ → Type 0
CountsMoves count (Ok moves) = length moves ≡ count
CountsMoves count (Err number) = ⊥
