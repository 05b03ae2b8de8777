use Rattle.std.proofs.Common.{◌-◌, ◌/◌, ◌%◌, [], get_or, arith}
use Rattle.std.proofs.lemmas.List.FromFn.{fill_by_all}
use Rattle.machine.specs.Looking.{shades_of}
use Rattle.machine.proofs.looking.write_shades.Goals as goal

pub returns : goal.returns
unfolding shades_of
returns c =
    fill_by_all (λ k. 3 - get_or (get_or c.args.picture.now.rows (k / 160) []) (k % 160) 0) c.loop-y.out 23040 0 (omega (arith, c.loop-y.auto.out, c.requires)) (λ k lt. c.loop-y.invariant k (omega (arith, lt, c.loop-y-test.false, c.loop-y.auto.y-end)))
