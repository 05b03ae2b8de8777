use Rattle.std.proofs.Common.{◌+◌, ◌*◌, ◌/◌, ◌%◌, get_or, arith}
use Rattle.std.proofs.lemmas.List.FromFn.{fill_by_all}
use Rattle.snapshot.specs.Reading.{shade_in, row_in}
use Rattle.snapshot.proofs.picture.row_in.Goals as goal

pub returns : goal.returns
unfolding row_in
returns c =
    fill_by_all (λ x. shade_in (get_or c.args.picture.now (40 * c.args.y + x / 4) 0) (x % 4)) c.loop-place.row 160 0 c.loop-place.invariant.columns (λ k lt. c.loop-place.invariant.done k (omega (arith, lt, c.loop-place-test.false, c.loop-place.auto.place-end)))
