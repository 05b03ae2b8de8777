use Rattle.std.proofs.Common.{rules, ◌<◌, ◌^◌, [], length, take, ap, ◌∙◌, subst, arith}
use Rattle.std.proofs.lemmas.List.{take_all}
use Rattle.input_entries.specs.declared.Entry.{Entry}
use Rattle.input_entries.specs.Inputs.{AllFive}
use Rattle.input_entries.specs.Growing.{with_inputs, last_of}
use Rattle.input_entries.proofs.MoreInputs.{next_input, five_more}
use Rattle.input_entries.proofs.growing.grown_length.Goals as goal

pub loop-input-preserved : goal.loop-input-preserved
loop-input-preserved c =
    let es = c.args.more.now in
    let i = c.loop-input.input-index in
    let d : Entry = record { code = [] } in
    let next = next_input c.args.entries.now es i d c.loop-input-test.true in
    let grown = c.grow-count.ensures.grown (with_inputs c.args.entries.now (take i es)) c.loop-input.invariant.last in
    record {
      count = omega (arith, ap length next, grown.1, c.loop-input.invariant.count);
      last = ap last_of next ∙ grown.0;
      few = omega (arith, c.loop-input.invariant.few, c.grow-count.ensures.few);
      five = five_more es i d c.loop-input-test.true c.loop-input.invariant.five c.grow-count.ensures.five;
    }
