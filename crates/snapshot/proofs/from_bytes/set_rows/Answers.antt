use Rattle.std.proofs.Common.{ℕ, List, ap, ◌∙◌, arith}
use Rattle.snapshot.specs.Reading.{with_rows}
use Rattle.snapshot.proofs.Pictures.{row_is_row, rows_all}
use Rattle.snapshot.proofs.from_bytes.set_rows.Goals as goal

pub set_row-requires-clause-shades : goal.set_row-requires-clause-shades
set_row-requires-clause-shades c = rw c.row_in.ensures (row_is_row c.args.picture.now c.loop-y.y (λ i. omega (arith, c.type_inv.picture i))).shades

pub returns : goal.returns
returns c =
    c.loop-y.invariant.same
    ∙ ap (λ (rows : List (List ℕ)). with_rows rows c.args.machine.now) (rows_all c.args.picture.now c.loop-y.machine.processor.memory.picture.picture.rows c.loop-y.invariant.count (λ y lt. c.loop-y.invariant.done y (omega (arith, c.loop-y-test.false))))
