-- Lines that are read one after another.
use Rattle.std.proofs.Common.{◌≡◌, ◌∙◌, ℕ, ◌+◌, ◌<◌, ◌≤◌, ◌==◌, true, false, List, [], ◌∷◌, ◌++◌, length, Option, None, Some, Result, Ok, Err, IfSome, MatchOption, ap, append-nil, refl, sym, Bor, arith}
use Rattle.script.specs.declared.moves.Move.{Move}
use Rattle.script.specs.Line.{move_of_line}
use Rattle.script.specs.Script.{CountsMoves, lines_of, moves_from, with_line, with_move}

-- the lines that are left
abbrev pub lines_left : Option (Bor (List ℕ)) → List (List ℕ)
lines_left None = []
lines_left (Some text) = lines_of text.now

-- the bytes that are left and the newline before them
abbrev pub bytes_left : Option (Bor (List ℕ)) → ℕ
bytes_left None = 0
bytes_left (Some text) = length text.now + 1

abbrev pub with_moves : List Move → Result (List Move) ℕ → Result (List Move) ℕ
with_moves [] others = others
with_moves (move ∷ moves) others = with_move move (with_moves moves others)

pub record HasRead (script : List ℕ) (number : ℕ) (left : Option (Bor (List ℕ))) (done : List Move) : Type 0 where
  pub whole : with_moves done (moves_from number (lines_left left)) ≡ moves_from 1 (lines_of script)

before_wrong : (moves : List Move) (number : ℕ) → with_moves moves (Err number) ≡ Err number
before_wrong [] number = refl
before_wrong (move ∷ moves) number = ap (with_move move) (before_wrong moves number)

before_last : (moves others : List Move) → with_moves moves (Ok others) ≡ Ok (moves ++ others)
before_last [] others = refl
before_last (move ∷ moves) others = ap (with_move move) (before_last moves others)

one_more : (moves : List Move) (move : Move) (others : Result (List Move) ℕ) →
    with_moves (moves ++ move ∷ []) others ≡ with_moves moves (with_move move others)
one_more [] move others = refl
one_more (first ∷ moves) move others = ap (with_move first) (one_more moves move others)

-- what a cut at the next newline says
pub next_lines : (text line : List ℕ) (rest : Option (Bor (List ℕ))) →
    MatchOption rest (lines_of text ≡ line ∷ []) (λ after. lines_of text ≡ line ∷ lines_of after.now) →
    lines_of text ≡ line ∷ lines_left rest
next_lines text line None e = e
next_lines text line (Some after) e = e

empty_first : (number : ℕ) (line : List ℕ) (lines : List (List ℕ)) → (length line == 0) ≡ true →
    moves_from number (line ∷ lines) ≡ moves_from (number + 1) lines
unfolding moves_from
empty_first number line lines e = rw e refl

line_first : (number : ℕ) (line : List ℕ) (lines : List (List ℕ)) → (length line == 0) ≡ false →
    moves_from number (line ∷ lines) ≡ with_line number (move_of_line line) (moves_from (number + 1) lines)
unfolding moves_from
line_first number line lines e = rw e refl

pub nothing_read : (script : List ℕ) (text : Bor (List ℕ)) → text.now ≡ script → HasRead script 1 (Some text) []
nothing_read script text e = record { whole = ap (λ (t : List ℕ). moves_from 1 (lines_of t)) e }

pub empty_read : {script : List ℕ} {number : ℕ} {done : List Move} (text : Bor (List ℕ)) (line : List ℕ) (rest : Option (Bor (List ℕ))) →
    HasRead script number (Some text) done → lines_of text.now ≡ line ∷ lines_left rest → (length line == 0) ≡ true →
    HasRead script (number + 1) rest done
empty_read {script} {number} {done} text line rest so_far e empty = record {
  whole = ap (with_moves done) (sym (ap (moves_from number) e ∙ empty_first number line (lines_left rest) empty)) ∙ so_far.whole;
}

pub move_read : {script : List ℕ} {number : ℕ} {done : List Move} (text : Bor (List ℕ)) (line : List ℕ) (rest : Option (Bor (List ℕ))) (move : Move) →
    HasRead script number (Some text) done → lines_of text.now ≡ line ∷ lines_left rest → (length line == 0) ≡ false → Some move ≡ move_of_line line →
    HasRead script (number + 1) rest (done ++ move ∷ [])
move_read {script} {number} {done} text line rest move so_far e full is = record {
  whole = one_more done move _ ∙ ap (with_moves done)
      (ap (λ (m : Option Move). with_line number m (moves_from (number + 1) (lines_left rest))) is
      ∙ sym (ap (moves_from number) e ∙ line_first number line (lines_left rest) full)) ∙ so_far.whole;
}

pub wrong_read : {script : List ℕ} {number : ℕ} {done : List Move} (text : Bor (List ℕ)) (line : List ℕ) (rest : Option (Bor (List ℕ))) →
    HasRead script number (Some text) done → lines_of text.now ≡ line ∷ lines_left rest → (length line == 0) ≡ false → None ≡ move_of_line line →
    moves_from 1 (lines_of script) ≡ Err number
wrong_read {script} {number} {done} text line rest so_far e full is =
    sym so_far.whole ∙ ap (with_moves done) (ap (moves_from number) e ∙ line_first number line (lines_left rest) full
    ∙ ap (λ (m : Option Move). with_line number m (moves_from (number + 1) (lines_left rest))) (sym is)) ∙ before_wrong done number

pub all_read : (script : List ℕ) (number : ℕ) (done : List Move) → HasRead script number None done → moves_from 1 (lines_of script) ≡ Ok done
unfolding moves_from
all_read script number done so_far = sym so_far.whole ∙ before_last done [] ∙ ap (λ (ms : List Move). Ok ms) (append-nil done)

-- a cut leaves fewer bytes
pub bytes_fall : (text : Bor (List ℕ)) (rest : Option (Bor (List ℕ))) → IfSome rest (λ after. length after.now < length text.now) →
    bytes_left rest + 1 ≤ bytes_left (Some text)
bytes_fall text None h = omega arith
bytes_fall text (Some after) h = omega arith

pub counted : (script : List ℕ) (number : ℕ) (done : List Move) (count : ℕ) → HasRead script number None done → length done ≡ count →
    CountsMoves count (moves_from 1 (lines_of script))
counted script number done count so_far e = rw (all_read script number done so_far) e
