use Rattle.std.proofs.Common.{◌≡◌, [], length, get_or, arith}
use Rattle.input_entries.specs.Inputs.{inputs_in}
use Rattle.input_entries.proofs.Meanings.{counts_all}
use Rattle.recording.proofs.ListBytes.{few_inputs, inputs_more}
use Rattle.recording.proofs.packing.count_inputs.Goals as goal

pub overflow_add-count : goal.overflow_add-count
overflow_add-count c =
    let es = c.args.entries.now in
    let i = c.loop-entry.entry-index in
    let s = get_or es i (record { code = [] }) in
    let one : c.inputs_of.result ≡ length (inputs_in s) = counts_all s c.inputs_of.result c.inputs_of.ensures (c.requires.good.entry i c.loop-entry-test.true) in
    omega (arith, one, few_inputs s, c.loop-entry.invariant.few, c.loop-entry-test.true, c.requires.few)

pub loop-entry-preserved : goal.loop-entry-preserved
loop-entry-preserved c =
    let es = c.args.entries.now in
    let i = c.loop-entry.entry-index in
    let s = get_or es i (record { code = [] }) in
    let one : c.inputs_of.result ≡ length (inputs_in s) = counts_all s c.inputs_of.result c.inputs_of.ensures (c.requires.good.entry i c.loop-entry-test.true) in
    record {
      count = omega (arith, c.loop-entry.invariant.count, one, inputs_more es i (record { code = [] }) c.loop-entry-test.true);
      few = omega (arith, one, few_inputs s, c.loop-entry.invariant.few);
    }
