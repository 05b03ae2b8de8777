-- The lines of parts of a play.
use Rattle.std.proofs.Common.{◌≡◌, ◌==◌, inl, inr, Option, Bool, false, if◌then◌else◌, subst, ℕ, ◌+◌, List, [], ◌∷◌, ◌++◌, length, refl, sym, ap, ◌∙◌, arith, append_assoc, append-nil, length-append}
use Rattle.std.specs.Io.KnownBytes.{Appends}
use Rattle.std.proofs.lemmas.Bool.{cases_Bool, eqb-true, ne_eqb}
use Rattle.exact_text.proofs.Writes.{appends_twice}
use Rattle.machine.specs.Machine.{Input}
use Rattle.script.specs.declared.moves.Move.{Move}
use Rattle.script.specs.declared.moves.Move.TheVariants.{Power}
use Rattle.playing.specs.Report.{unsaved_after, unsaved_behind, line_due, lines_of_inputs, unsaved_behind_move, unsaved_behind_moves, lines_of_move, lines_of_moves, last_line}
use Rattle.playing.specs.Lines.{Line, texts, saved_line}
use Rattle.script.specs.Inputs.{inputs_of_move, inputs_of_moves}

-- ---- texts

pub texts_append : (first second : List Line) → texts (first ++ second) ≡ texts first ++ texts second
texts_append [] second = refl
texts_append (line ∷ first) second = ap (λ (l : List ℕ). line.text ++ l) (texts_append first second) ∙ sym (append_assoc line.text (texts first) (texts second))

pub appends_lines : (a b c : Option (List ℕ)) (first second : List Line) → Appends a b (texts first) → Appends b c (texts second) → Appends a c (texts (first ++ second))
appends_lines a b c first second one two = subst (Appends a c) (sym (texts_append first second)) (appends_twice a b c (texts first) (texts second) one two)

pub appends_line : (a b : Option (List ℕ)) (line : Line) → Appends a b line.text → Appends a b (texts (line ∷ []))
appends_line a b line one = subst (Appends a b) (sym (append-nil line.text)) one

-- ---- a save that is due

pub line_is_due : (unsaved count : ℕ) → unsaved + 1 ≡ 3200 → line_due unsaved count ≡ saved_line count ∷ []
line_is_due unsaved count e = ap (λ (n : ℕ). if n == 3200 then saved_line count ∷ [] else []) e

-- so many are unsaved behind an input, and these lines are written for it
pub is_due : (unsaved count : ℕ) → unsaved + 1 ≡ 3200 → (0 ≡ unsaved_after unsaved) × (saved_line count ∷ [] ≡ line_due unsaved count ++ [])
is_due unsaved count e = (ap (λ (n : ℕ). if n == 3200 then 0 else n) (sym e), sym (line_is_due unsaved count e) ∙ sym (append-nil (line_due unsaved count)))

pub not_due : (unsaved count : ℕ) → (unsaved + 1 ≡ 3200 → ⊥) → (unsaved + 1 ≡ unsaved_after unsaved) × ([] ≡ line_due unsaved count ++ [])
not_due unsaved count less =
    let other : (unsaved + 1 == 3200) ≡ false = ne_eqb (unsaved + 1) 3200 less in
    (ap (λ (t : Bool). if t then 0 else unsaved + 1) (sym other), ap (λ (t : Bool). if t then saved_line count ∷ [] else []) (sym other) ∙ sym (append-nil (line_due unsaved count)))

-- ---- inputs

pub unsaved_append : (unsaved : ℕ) (first second : List Input) → unsaved_behind unsaved (first ++ second) ≡ unsaved_behind (unsaved_behind unsaved first) second
unsaved_append unsaved [] second = refl
unsaved_append unsaved (i ∷ first) second = unsaved_append (unsaved_after unsaved) first second

pub lines_append : (count unsaved : ℕ) (first second : List Input) → lines_of_inputs count unsaved (first ++ second) ≡ lines_of_inputs count unsaved first ++ lines_of_inputs (count + length first) (unsaved_behind unsaved first) second
lines_append count unsaved [] second = let e : count ≡ count + 0 = omega arith in ap (λ (n : ℕ). lines_of_inputs n unsaved second) e
lines_append count unsaved (i ∷ first) second =
    let e : count + 1 + length first ≡ count + length (i ∷ first) = omega arith in
    ap (λ (l : List Line). line_due unsaved (count + 1) ++ l) (lines_append (count + 1) (unsaved_after unsaved) first second)
    ∙ sym (append_assoc (line_due unsaved (count + 1)) (lines_of_inputs (count + 1) (unsaved_after unsaved) first) (lines_of_inputs (count + 1 + length first) (unsaved_behind (unsaved_after unsaved) first) second))
    ∙ ap (λ (n : ℕ). (line_due unsaved (count + 1) ++ lines_of_inputs (count + 1) (unsaved_after unsaved) first) ++ lines_of_inputs n (unsaved_behind (unsaved_after unsaved) first) second) e

-- ---- moves

pub inputs_append : (first second : List Move) → inputs_of_moves (first ++ second) ≡ inputs_of_moves first ++ inputs_of_moves second
inputs_append [] second = refl
inputs_append (m ∷ first) second = ap (λ (l : List Input). inputs_of_move m ++ l) (inputs_append first second) ∙ sym (append_assoc (inputs_of_move m) (inputs_of_moves first) (inputs_of_moves second))

pub unsaved_moves : (unsaved : ℕ) (first second : List Move) → unsaved_behind_moves unsaved (first ++ second) ≡ unsaved_behind_moves (unsaved_behind_moves unsaved first) second
unsaved_moves unsaved [] second = refl
unsaved_moves unsaved (m ∷ first) second = unsaved_moves (unsaved_behind_move unsaved m) first second

pub lines_moves : (count unsaved : ℕ) (first second : List Move) → lines_of_moves count unsaved (first ++ second) ≡ lines_of_moves count unsaved first ++ lines_of_moves (count + length (inputs_of_moves first)) (unsaved_behind_moves unsaved first) second
lines_moves count unsaved [] second = let e : count ≡ count + 0 = omega arith in ap (λ (n : ℕ). lines_of_moves n unsaved second) e
lines_moves count unsaved (m ∷ first) second =
    let e : count + length (inputs_of_move m) + length (inputs_of_moves first) ≡ count + length (inputs_of_moves (m ∷ first)) = omega (arith, length-append (inputs_of_move m) (inputs_of_moves first)) in
    let here = lines_of_move count unsaved m in
    let next = lines_of_moves (count + length (inputs_of_move m)) (unsaved_behind_move unsaved m) first in
    ap (λ (l : List Line). here ++ l) (lines_moves (count + length (inputs_of_move m)) (unsaved_behind_move unsaved m) first second)
    ∙ sym (append_assoc here next (lines_of_moves (count + length (inputs_of_move m) + length (inputs_of_moves first)) (unsaved_behind_moves (unsaved_behind_move unsaved m) first) second))
    ∙ ap (λ (n : ℕ). (here ++ next) ++ lines_of_moves n (unsaved_behind_moves (unsaved_behind_move unsaved m) first) second) e

-- those before a power switch
pub front_of_moves : (moves done left : List Move) → moves ≡ done ++ Power ∷ left → inputs_of_moves done ++ inputs_of_moves (Power ∷ left) ≡ inputs_of_moves moves
front_of_moves moves done left are = sym (inputs_append done (Power ∷ left)) ∙ ap inputs_of_moves (sym are)

-- ---- the save at the end

pub last_none : (count unsaved : ℕ) → unsaved ≡ 0 → last_line count unsaved ≡ []
last_none count unsaved e = ap (last_line count) e

pub last_some : (count unsaved : ℕ) → (unsaved ≡ 0 → ⊥) → last_line count unsaved ≡ saved_line count ∷ []
last_some count unsaved some = elim (cases_Bool (unsaved == 0)) [
  | inl none ↦ absurd (some (eqb-true unsaved 0 none))
  | inr other ↦ ap (λ (t : Bool). if t then [] else saved_line count ∷ []) other
]
