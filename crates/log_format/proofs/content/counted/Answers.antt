use Rattle.std.proofs.Common.{◌+◌, [], ◌∙◌, arith}
use Rattle.log_format.proofs.Counting.{counted_next}
use Rattle.log_format.proofs.content.counted.Goals as goal

pub loop-entry-preserved : goal.loop-entry-preserved
loop-entry-preserved c = record {
  rest = c.loop-entry.invariant.rest ∙ counted_next c.args.log.now c.loop-entry.entry-index c.loop-entry.count c.inputs_of.result c.counted_with-count.result (record { code = [] }) c.loop-entry-test.true c.inputs_of.ensures c.counted_with-count.ensures.count;
  bound = omega (arith, c.counted_with-count.ensures.bound (216000 + c.loop-entry.entry-index) (omega arith) c.loop-entry.invariant.bound);
}
