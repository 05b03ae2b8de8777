use Rattle.std.proofs.Common.{◌∙◌, ◌++◌, ◌∷◌, [], length-append, sym, arith}
use Rattle.script.proofs.Reading.{bytes_fall, counted, empty_read, move_read, next_lines, wrong_read}
use Rattle.script.proofs.lines.count_moves.Goals as goal
use Rattle.script.proofs.lines.count_moves.Goals.{then-not-is_empty+in-Some-read_line, else-not-is_empty}

pub returns-in-None-clause-wrong : goal.returns-in-None-clause-wrong
returns-in-None-clause-wrong c =
    let read = rw c.in-Some.is at c.loop-rest.invariant.read in
    wrong_read c.in-Some.text c.cut.result.0.now c.cut.result.1 read (next_lines c.in-Some.text.now c.cut.result.0.now c.cut.result.1 c.cut.ensures.parts) (sym c.is_empty.ensures ∙ c.if-not-is_empty.true) (sym c.in-None.is ∙ c.read_line.ensures.line)

pub loop-rest-preserved : goal.loop-rest-preserved
loop-rest-preserved c =
    let read = rw c.in-Some.is at c.loop-rest.invariant.read in
    let room = rw c.in-Some.is at c.loop-rest.invariant.room in
    let fewer = bytes_fall c.in-Some.text c.cut.result.1 c.cut.ensures.shorter in
    elim c.if-not-is_empty.branch [
      | then-not-is_empty+in-Some-read_line w ↦ record {
        done = c.loop-rest.invariant.done ++ w.in-Some-read_line.field-0 ∷ [];
        read = move_read c.in-Some.text c.cut.result.0.now c.cut.result.1 _ read (next_lines c.in-Some.text.now c.cut.result.0.now c.cut.result.1 c.cut.ensures.parts) (sym c.is_empty.ensures ∙ w.if-not-is_empty.true) (sym w.in-Some-read_line.is ∙ w.read_line.ensures.line);
        count = rw (w.count-is, length-append) (omega arith);
        below = omega arith;
        room = omega arith;
      }
      | else-not-is_empty w ↦ record {
        done = c.loop-rest.invariant.done;
        read = empty_read c.in-Some.text c.cut.result.0.now c.cut.result.1 read (next_lines c.in-Some.text.now c.cut.result.0.now c.cut.result.1 c.cut.ensures.parts) (sym c.is_empty.ensures ∙ w.if-not-is_empty.false);
        count = rw w.count-is c.loop-rest.invariant.count;
        below = omega arith;
        room = omega arith;
      }
    ]

pub returns-clause-moves : goal.returns-clause-moves
returns-clause-moves c =
    let read = rw c.in_default.is at c.loop-rest.invariant.read in
    counted _ _ _ _ read c.loop-rest.invariant.count
