use Rattle.std.proofs.Common.{◌∙◌, refl, sym}
use Rattle.std.proofs.lemmas.List.Elements.{All-nil, All-push}
use Rattle.script.specs.Line.{HasTimes}
use Rattle.script.proofs.Reading.{all_read, empty_read, move_read, next_lines, nothing_read, wrong_read}
use Rattle.script.proofs.lines.list_moves.Goals as goal

pub loop-rest-init : goal.loop-rest-init
loop-rest-init c = rw c.in_ok-moves.ensures.items record { number = 1; read = nothing_read _ _ refl; times = All-nil HasTimes }

pub unreachable-requires : goal.unreachable-requires
unreachable-requires c =
    let read = rw c.in-Some.is at c.loop-rest.invariant.read in
    let wrong = wrong_read c.in-Some.text c.cut.result.0.now c.cut.result.1 read (next_lines c.in-Some.text.now c.cut.result.0.now c.cut.result.1 c.cut.ensures.parts) (sym c.is_empty.ensures ∙ c.if-not-is_empty.true) (sym c.in-None.is ∙ c.read_line.ensures.line) in
    let h = rw wrong at c.requires in cc

pub loop-rest-preserved-in_ok-push-in-Some-read_line : goal.loop-rest-preserved-in_ok-push-in-Some-read_line
loop-rest-preserved-in_ok-push-in-Some-read_line c =
    let read = rw c.in-Some.is at c.loop-rest.invariant.read in
    let next = move_read c.in-Some.text c.cut.result.0.now c.cut.result.1 _ read (next_lines c.in-Some.text.now c.cut.result.0.now c.cut.result.1 c.cut.ensures.parts) (sym c.is_empty.ensures ∙ c.if-not-is_empty.true) (sym c.in-Some-read_line.is ∙ c.read_line.ensures.line) in
    rw c.in_ok-push-in-Some-read_line.ensures.items record { number = _; read = next; times = All-push HasTimes _ _ c.loop-rest.invariant.times c.in-Some-read_line.ensures.times }

pub loop-rest-preserved : goal.loop-rest-preserved
loop-rest-preserved c =
    let read = rw c.in-Some.is at c.loop-rest.invariant.read in
    let next = empty_read c.in-Some.text c.cut.result.0.now c.cut.result.1 read (next_lines c.in-Some.text.now c.cut.result.0.now c.cut.result.1 c.cut.ensures.parts) (sym c.is_empty.ensures ∙ c.if-not-is_empty.false) in
    record { number = _; read = next; times = c.loop-rest.invariant.times }

pub returns-clause-moves : goal.returns-clause-moves
returns-clause-moves c =
    let read = rw c.in_default.is at c.loop-rest.invariant.read in
    all_read _ _ _ read
