use Rattle.std.proofs.Common.{arith, inl, inr, eqb-true}
use Rattle.cartridge.proofs.Lengths.{halving, at_stop}
use Rattle.cartridge.proofs.length.is_rom_length.Goals as goal
use Rattle.cartridge.proofs.length.is_rom_length.Goals.{then-loop-rest-test+else-rest-eq0, else-loop-rest-test}

pub loop-rest-preserved : goal.loop-rest-preserved
loop-rest-preserved c =
    let half = halving c.loop-rest.rest c.loop-rest-test.true c.if-rest-eq0.true in
    let kept = c.loop-rest.invariant.0 in
    ((λ is. kept.0 (half.0 is), λ is. half.1 (kept.1 is)), omega (arith, c.loop-rest.invariant.1))

pub returns-clause-test : goal.returns-clause-test
returns-clause-test c =
    at_stop c.loop-rest.rest c.args.length c.loop-rest.invariant.0
    (elim c.loop-rest-test.branch [
      | then-loop-rest-test+else-rest-eq0 w ↦ inl (w.loop-rest-test.true, w.if-rest-eq0.false)
      | else-loop-rest-test w ↦ inr w.loop-rest-test.false
    ])

pub returns-clause-least : goal.returns-clause-least
returns-clause-least c = λ is. omega (arith, eqb-true c.loop-rest.rest 32768 is, c.loop-rest.invariant.1)
