use Rattle.std.proofs.Common.{◌++◌, [], length, drop, get_or, ap, ◌∙◌, sym, arith}
use Rattle.input_entries.specs.declared.Entry.{Entry}
use Rattle.input_entries.specs.Growing.{with_input, with_inputs}
use Rattle.input_entries.proofs.MoreInputs.{next_input, stops, input_at, five_more}
use Rattle.recording.proofs.packing.fill.Goals as goal

pub add_input-requires-clause-input : goal.add_input-requires-clause-input
add_input-requires-clause-input c = input_at c.args.more.now c.loop-i.i (record { code = [] }) c.loop-i-test.true c.requires.input

pub loop-i-preserved : goal.loop-i-preserved
loop-i-preserved c =
    let es = c.args.more.now in
    let i = c.loop-i.i in
    let d : Entry = record { code = [] } in
    record {
      items = c.add_input.ensures.added c.if-not-add_input.false ∙ ap (λ l. with_input l (get_or es i d)) c.loop-i.invariant.items ∙ sym (next_input c.args.entries.now.items es i d c.loop-i-test.true);
      short = c.add_input.ensures.short;
      capacity = omega (arith, c.loop-i.invariant.capacity, c.add_input.ensures.capacity);
      good = c.add_input.ensures.good;
      five = five_more es i d c.loop-i-test.true c.loop-i.invariant.five c.add_input.ensures.five;
    }

pub returns-then-not-add_input-clause-full : goal.returns-then-not-add_input-clause-full
returns-then-not-add_input-clause-full c = λ _.
    let stop = c.add_input.ensures.not_added c.if-not-add_input.true in (
      ap length stop.0 ∙ stop.1,
      stops c.args.entries.now.items c.loop-i.entries.items c.args.more.now c.loop-i.i (record { code = [] }) c.loop-i-test.true c.loop-i.invariant.items stop.2
          ∙ ap (λ l. l ++ with_inputs [] (drop c.loop-i.i c.args.more.now)) (sym stop.0),
    )
