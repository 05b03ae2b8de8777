use Rattle.std.proofs.Common.{rules, ◌≡◌, ◌≤◌, ◌++◌, length, arith, drop, length-append, length-drop}
use Rattle.std.proofs.KnownBytes.{Consumes-trans}
use Rattle.input_lines.proofs.Bytes.{skipped_short}
use Rattle.input_lines.proofs.taking.skip_bytes.Goals as goal

pub skipping-preserved : goal.skipping-preserved
skipping-preserved g c =
    let so_far = c.skipping.invariant in
    let part : length c.take_bytes.new.bytes ≡ c.min-part.result = search rules in
    record {
      room = omega (arith, part, so_far.room, c.min-part.ensures, length-append c.take_bytes.new.bytes (drop c.min-part.result c.skipping.bytes), length-drop c.min-part.result c.skipping.bytes);
      skipped = so_far.skipped ++ c.take_bytes.new.bytes;
      count = omega (arith, so_far.count, part, length-append so_far.skipped c.take_bytes.new.bytes, c.min-part.ensures);
      took = Consumes-trans _ _ _ so_far.skipped c.take_bytes.new.bytes so_far.took c.in-All.ensures.taken;
    }

pub returns-in_default-clause-skipped : goal.returns-in_default-clause-skipped
returns-in_default-clause-skipped g c =
    let so_far = c.skipping.invariant in
    let part : length c.take_bytes.new.bytes ≡ c.min-part.result = search rules in
    let few : length c.take_bytes.new.bytes ≤ c.skipping.left = omega (arith, part, c.min-part.ensures) in
    skipped_short c.take_bytes.result c.args.count c.skipping.left so_far.skipped c.take_bytes.new.bytes _ _ _ (search rules) so_far.count few so_far.took c.take_bytes.ensures.taken
