use Rattle.std.proofs.Common.{rules, ◌≡◌, ◌≤◌, ◌+◌, ◌*◌, ◌/◌, ◌++◌, [], length, take, drop, get_or, vec_capacity, ap, sym, ◌∙◌, subst, arith}
use Rattle.std.proofs.lemmas.List.{take_all}
use Rattle.input_entries.specs.declared.Entry.{Entry}
use Rattle.input_entries.specs.Inputs.{AllFive}
use Rattle.input_entries.specs.Growing.{with_input, with_inputs}
use Rattle.log_format.specs.Appends.{grown}
use Rattle.input_entries.proofs.MoreInputs.{five_more}
use Rattle.log_format.proofs.Adding.{within_here, room_here, next_here, grown_by}
use Rattle.log_format.proofs.entries.add_inputs.Goals as goal

pub add_input-requires-clause-sealed : goal.add_input-requires-clause-sealed
add_input-requires-clause-sealed c =
    let log = c.args.log.now.items in
    let n = c.len.result / 84 * 84 in
    let count : c.len.result ≡ length log = search rules in
    let within : n ≤ length log = omega (arith, count) in
    omega (arith, ap length c.loop-input.invariant.items, within_here log c.args.more.now n within c.loop-input.input-index c.loop-input-test.true)

pub add_input-requires-clause-room : goal.add_input-requires-clause-room
add_input-requires-clause-room c =
    let log = c.args.log.now.items in
    let n = c.len.result / 84 * 84 in
    let count : c.len.result ≡ length log = search rules in
    let within : n ≤ length log = omega (arith, count) in
    let e : Entry = get_or c.args.more.now c.loop-input.input-index (record { code = [] }) in
    let same : c.loop-input.log.items ≡ take n log ++ with_inputs (drop n log) (take c.loop-input.input-index c.args.more.now) = c.loop-input.invariant.items in
    let room = room_here log c.args.more.now n within c.loop-input.input-index c.loop-input-test.true (record { code = [] }) in
    let all : length (take n log ++ with_inputs (drop n log) c.args.more.now) ≡ length (grown log c.args.more.now) = ap length (grown_by log c.args.more.now n (omega (arith, count))) in
    subst (λ l. length (with_input (drop n l) e) + n ≤ vec_capacity c.loop-input.log) (sym same) (omega (arith, room, all, c.requires.room, c.loop-input.invariant.capacity))

pub loop-input-preserved : goal.loop-input-preserved
loop-input-preserved c =
    let log = c.args.log.now.items in
    let es = c.args.more.now in
    let n = c.len.result / 84 * 84 in
    let i = c.loop-input.input-index in
    let count : c.len.result ≡ length log = search rules in
    let within : n ≤ length log = omega (arith, count) in
    let e : Entry = get_or es i (record { code = [] }) in
    let same : c.loop-input.log.items ≡ take n log ++ with_inputs (drop n log) (take i es) = c.loop-input.invariant.items in
    record {
      items = c.add_input.ensures.items ∙ ap (λ l. take n l ++ with_input (drop n l) e) same
          ∙ next_here log es n within i c.loop-input-test.true (record { code = [] });
      capacity = omega (arith, c.loop-input.invariant.capacity, c.add_input.ensures.capacity);
      five = five_more es i (record { code = [] }) c.loop-input-test.true c.loop-input.invariant.five c.add_input.ensures.five;
    }

pub returns-clause-items : goal.returns-clause-items
returns-clause-items c =
    let log = c.args.log.now.items in
    let es = c.args.more.now in
    let n = c.len.result / 84 * 84 in
    let count : c.len.result ≡ length log = search rules in
    let end : take c.loop-input.input-index es ≡ es = take_all c.loop-input.input-index es c.loop-input-test.false in
    c.loop-input.invariant.items ∙ ap (λ l. take n log ++ with_inputs (drop n log) l) end ∙ grown_by log es n (omega (arith, count))
