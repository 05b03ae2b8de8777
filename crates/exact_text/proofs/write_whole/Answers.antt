use Rattle.std.proofs.Common.{arith, length-drop}
use Rattle.std.proofs.lemmas.List.{take_rest}
use Rattle.exact_text.proofs.Writes.{appends_next_part}
use Rattle.exact_text.proofs.write_whole.Goals as goal

pub loop-written-preserved : goal.loop-written-preserved
loop-written-preserved g c =
    let taken = rw take_rest at c.in-Ok.ensures.taken in (
      omega (arith, taken.0, length-drop c.loop-written.written c.args.text.now),
      appends_next_part _ _ _ c.args.text.now c.loop-written.written c.in-Ok.count c.loop-written.invariant.1 taken.2,
    )
