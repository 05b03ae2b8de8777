use Rattle.std.proofs.Common.{◌<◌, ◌∙◌, length, refl, arith}
use Rattle.std.proofs.lemmas.List.{length-set}
use Rattle.debugger.proofs.Marks.{one_more_marked, all_marked}
use Rattle.debugger.proofs.breaks.marks_of.Goals as goal

pub loop-at-init : goal.loop-at-init
loop-at-init c = (refl, λ k below. absurd (omega arith))

pub loop-at-preserved : goal.loop-at-preserved
loop-at-preserved c =
    let below : c.from.result < length c.loop-at.marks = rw c.loop-at.invariant.0 (rw c.from.ensures (omega arith)) in (
      length-set c.loop-at.marks c.from.result _ ∙ c.loop-at.invariant.0,
      one_more_marked c.loop-at.marks c.args.addresses.now c.loop-at.at-index c.from.result below c.from.ensures c.loop-at.invariant.1,
    )

pub returns : goal.returns
returns c = all_marked c.loop-at.marks c.args.addresses.now c.loop-at.at-index c.loop-at-test.false c.loop-at.invariant.1
