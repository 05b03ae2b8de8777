use Rattle.std.proofs.Common.{◌/◌, ◌%◌, [], get_or, arith}
use Rattle.std.proofs.lemmas.List.FromFn.{fill_by_all}
use Rattle.snapshot.specs.Encoding.{byte_of_four, picture_bytes}
use Rattle.snapshot.proofs.picture.write_picture.Goals as goal

pub returns-clause-bytes : goal.returns-clause-bytes
unfolding picture_bytes
returns-clause-bytes c =
    fill_by_all (λ k. byte_of_four (get_or c.args.picture.now.rows (k / 40) []) (k % 40)) c.loop-y.out 5760 0 (omega (arith, c.loop-y.auto.out, c.requires)) (λ k lt. c.loop-y.invariant.done k (omega (arith, lt, c.loop-y-test.false, c.loop-y.auto.y-end)))
