-- What a stream tells is at most what it has at its end.
use Rattle.std.proofs.Common.{ℕ, ◌+◌, ◌≤◌, List, [], ◌∷◌, ◌++◌, length, inl, inr, sym, ap, subst, arith, length-append}
use Rattle.std.specs.Prelude.{◌==◌, codes, replicate, if◌then◌else◌, Bool}
use Rattle.std.specs.List.{All}
use Rattle.std.proofs.lemmas.Bool.{cases_Bool}
use Rattle.std.proofs.lemmas.List.Elements.{All-nil, All-cons, All-append, All-weaker}
use Rattle.machine.specs.Machine.{MachineState, after}
use Rattle.machine.specs.Machine.{Input}
use Rattle.machine.specs.Machine.{Frame}
use Rattle.script.specs.declared.moves.Move.{Move}
use Rattle.script.specs.declared.moves.Move.TheVariants.{Frames, Seconds, Save, Power}
use Rattle.session.specs.Stands.{Position}
use Rattle.playing.specs.Report.{unsaved_after, line_due, lines_of_inputs, lines_of_move}
use Rattle.playing.specs.Lines.{Line, resumed_line, saved_line}
use Rattle.script.specs.Inputs.{inputs_of_move}
use Rattle.machine_lines.specs.Looks.{look_text}
use Rattle.machine_lines.specs.Texts.{count_line}
use Rattle.streaming.specs.Orders.{Deed, Does, GoesOnWith}
use Rattle.streaming.specs.Answers.{answer, other_text, inputs_of_order, inputs_of_deed, inputs_of_deeds, unsaved_behind_deed, lines_of_order, lines_of_deed, lines_of_deeds, ended, stream_lines}
use Rattle.streaming.specs.declared.order.Order.{Order}
use Rattle.streaming.specs.declared.order.Order.TheVariants.{Make, Look, Keep, Back, Restore}
use Rattle.streaming.proofs.Wholes.{ended_gives}

-- no line tells more than this
abbrev pub AreAtMost : (most : ℕ) → List Line → Type 0
AreAtMost most lines = All (λ line. line.told ≤ most) lines

pub more_at_most : (less most : ℕ) (lines : List Line) → less ≤ most → AreAtMost less lines → AreAtMost most lines
more_at_most less most lines le all = All-weaker (λ (line : Line). line.told ≤ less) (λ line. line.told ≤ most) (λ line (within : line.told ≤ less). omega (arith, within, le)) lines all

pub none_at_most : (most : ℕ) → AreAtMost most []
none_at_most most = All-nil (λ (line : Line). line.told ≤ most)

one_at_most : (most : ℕ) (line : Line) → line.told ≤ most → AreAtMost most (line ∷ [])
one_at_most most line le = All-cons (λ (l : Line). l.told ≤ most) line [] le (none_at_most most)

two_at_most : (most : ℕ) (lines others : List Line) → AreAtMost most lines → AreAtMost most others → AreAtMost most (lines ++ others)
two_at_most most lines others one two = All-append (λ (line : Line). line.told ≤ most) lines others one two

due_at_most : (unsaved count : ℕ) → AreAtMost count (line_due unsaved count)
due_at_most unsaved count = elim (cases_Bool (unsaved + 1 == 3200)) [
  | inl is ↦ subst (λ (t : Bool). AreAtMost count (if t then saved_line count ∷ [] else [])) (sym is) (one_at_most count (saved_line count) (omega arith))
  | inr is ↦ subst (λ (t : Bool). AreAtMost count (if t then saved_line count ∷ [] else [])) (sym is) (none_at_most count)
]

inputs_at_most : (count unsaved : ℕ) (inputs : List Input) → AreAtMost (count + length inputs) (lines_of_inputs count unsaved inputs)
inputs_at_most count unsaved [] = none_at_most (count + 0)
inputs_at_most count unsaved (i ∷ inputs) =
    let all : ℕ = count + length (i ∷ inputs) in
    let first = line_due unsaved (count + 1) in
    let others = lines_of_inputs (count + 1) (unsaved_after unsaved) inputs in
    two_at_most all first others
    (more_at_most (count + 1) all first (omega arith) (due_at_most unsaved (count + 1)))
    (more_at_most (count + 1 + length inputs) all others (omega arith) (inputs_at_most (count + 1) (unsaved_after unsaved) inputs))

move_at_most : (count unsaved : ℕ) (move : Move) → AreAtMost (count + length (inputs_of_move move)) (lines_of_move count unsaved move)
move_at_most count unsaved (Frames buttons times) = inputs_at_most count unsaved (replicate times (Frame buttons))
move_at_most count unsaved (Seconds n) = due_at_most unsaved (count + 1)
move_at_most count unsaved Save = one_at_most (count + 0) (saved_line count) (omega arith)
move_at_most count unsaved Power = due_at_most unsaved (count + 1)

order_at_most : (machine : MachineState) (count unsaved : ℕ) (order : Order) → AreAtMost (count + length (inputs_of_order order)) (lines_of_order machine count unsaved order)
order_at_most machine count unsaved (Make move) = move_at_most count unsaved move
order_at_most machine count unsaved (Look look) = one_at_most (count + 0) (answer (look_text look machine)) (omega arith)
order_at_most machine count unsaved (Keep k) = one_at_most (count + 0) (answer (count_line (codes "kept") k)) (omega arith)
order_at_most machine count unsaved (Back k) = none_at_most (count + 0)
order_at_most machine count unsaved (Restore n) = none_at_most (count + 0)

deed_at_most : (machine : MachineState) (count unsaved : ℕ) (deed : Deed) → AreAtMost (count + length (inputs_of_deed deed)) (lines_of_deed machine count unsaved deed)
deed_at_most machine count unsaved (Does order) = order_at_most machine count unsaved order
deed_at_most machine count unsaved (GoesOnWith order other) =
    two_at_most (count + 1) (line_due unsaved (count + 1)) (answer (other_text order) ∷ []) (due_at_most unsaved (count + 1)) (one_at_most (count + 1) (answer (other_text order)) (omega arith))

deeds_at_most : (machine : MachineState) (count unsaved : ℕ) (deeds : List Deed) → AreAtMost (count + length (inputs_of_deeds deeds)) (lines_of_deeds machine count unsaved deeds)
deeds_at_most machine count unsaved [] = none_at_most (count + 0)
deeds_at_most machine count unsaved (deed ∷ deeds) =
    let all : ℕ = count + length (inputs_of_deeds (deed ∷ deeds)) in
    let size = length-append (inputs_of_deed deed) (inputs_of_deeds deeds) in
    let here : ℕ = count + length (inputs_of_deed deed) in
    let first = lines_of_deed machine count unsaved deed in
    let others = lines_of_deeds (after machine (inputs_of_deed deed)) here (unsaved_behind_deed unsaved deed) deeds in
    two_at_most all first others
    (more_at_most here all first (omega (arith, size)) (deed_at_most machine count unsaved deed))
    (more_at_most (here + length (inputs_of_deeds deeds)) all others (omega (arith, size)) (deeds_at_most (after machine (inputs_of_deed deed)) here (unsaved_behind_deed unsaved deed) deeds))

pub stream_at_most : (from : Position) (deeds : List Deed) → AreAtMost (from.count + length (inputs_of_deeds deeds)) (stream_lines from deeds)
stream_at_most from deeds =
    let all : ℕ = from.count + length (inputs_of_deeds deeds) in
    let whole = ended 0 deeds in
    let given = ap (λ (l : List Input). length l) (ended_gives 0 deeds) in
    All-cons (λ (line : Line). line.told ≤ all) (resumed_line from.count) (lines_of_deeds from.machine from.count 0 whole) (omega arith)
    (more_at_most (from.count + length (inputs_of_deeds whole)) all (lines_of_deeds from.machine from.count 0 whole) (omega (arith, given)) (deeds_at_most from.machine from.count 0 whole))
