use Rattle.std.proofs.Common.{◌∙◌, ◌<◌, ◌+◌, drop, length, subst, sym, arith}
use Rattle.std.specs.List.{flat_map}
use Rattle.debugger.specs.Report.{line_seen}
use Rattle.debugger.proofs.Lines.{IsWrittenBut, none_written, one_more_written, part_failed, all_written}
use Rattle.debugging.proofs.Parts.{is_past, next_item, no_item_left}
use Rattle.debugging.proofs.answering.write_seen.Goals as goal
use Rattle.debugging.proofs.answering.write_seen.Goals.{in-Some+in_default-write_stepped, in_default}

pub loop-index-init : goal.loop-index-init
loop-index-init g c = none_written _ _

pub returns-in-Err-clause-err : goal.returns-in-Err-clause-err
returns-in-Err-clause-err g c =
    let within : c.loop-index.index < length c.args.debugger.now.history = omega (arith, c.loop-index-test.true, c.history_len-index-end.ensures.len) in
    part_failed _ _ _ _ _ _ _ (next_item line_seen c.args.debugger.now.history c.loop-index.index c.in-Some.executed within (sym c.history.ensures ∙ c.in-Some.is))
    c.loop-index.invariant c.in-Err.ensures.err

pub loop-index-preserved : goal.loop-index-preserved
loop-index-preserved g c =
    let history = c.args.debugger.now.history in
    let within : c.loop-index.index < length history = omega (arith, c.loop-index-test.true, c.history_len-index-end.ensures.len) in
    elim c.match-history.branch [
      | in-Some+in_default-write_stepped w ↦
          subst (λ (o : g.row.W.Denot). IsWrittenBut (flat_map line_seen (drop (c.loop-index.index + 1) history)) (flat_map line_seen (drop c.args.first history)) (g.W.Output.contents c.args.out.now) (g.W.Output.contents o))
          (sym w.out-is)
          (one_more_written _ _ _ _ _ _ _ (next_item line_seen history c.loop-index.index w.in-Some.executed within (sym c.history.ensures ∙ w.in-Some.is))
          c.loop-index.invariant w.in_default-write_stepped.ensures.ok)
      | in_default w ↦ absurd (let past = is_past history c.loop-index.index (sym c.history.ensures ∙ w.in_default.is) in omega (arith, past, within))
    ]

pub returns-clause-ok : goal.returns-clause-ok
returns-clause-ok g c =
    let past = c.history_len-index-end.ensures.len in
    all_written _ _ _ _ (no_item_left line_seen c.args.debugger.now.history c.loop-index.index (omega (arith, c.loop-index-test.false, past))) c.loop-index.invariant
