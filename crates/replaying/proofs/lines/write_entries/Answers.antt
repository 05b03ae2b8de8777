use Rattle.std.proofs.Common.{◌+◌, [], take, drop, get_or, sym, subst, List}
use Rattle.machine.specs.Machine.{Input}
use Rattle.input_entries.specs.Inputs.{inputs, inputs_in}
use Rattle.session.specs.Inputs.{inputs_of}
use Rattle.replaying.specs.Lines.{HasWritten, HasStopped}
use Rattle.replaying.proofs.Entries.{next_of}
use Rattle.replaying.proofs.Written.{written_then, written_stopped, stopped_before}
use Rattle.replaying.proofs.lines.write_entries.Goals as goal

pub returns-in-Err-clause-err : goal.returns-in-Err-clause-err
returns-in-Err-clause-err g c = λ all.
    let i = c.loop-entry.entry-index in
    let entries = c.args.entries.now in
    let next = next_of entries i (record { code = [] }) c.loop-entry-test.true all in
    let first = g.W.Output.contents c.args.out.now in
    let last = g.W.Output.contents c.write_entry.new.out in
    let stopped = written_stopped c.args.run.now c.loop-entry.run (inputs_of (inputs (take i entries))) (inputs_of (inputs_in (get_or entries i (record { code = [] })))) first (g.W.Output.contents c.loop-entry.out) last
    (c.loop-entry.invariant all) (c.in-Err.ensures.err next.is_one) in
    subst (λ (l : List Input). HasStopped c.args.run.now l first last) (sym next.all)
    (stopped_before c.args.run.now (inputs_of (inputs (take (i + 1) entries))) (inputs_of (inputs (drop (i + 1) entries))) first last
    (subst (λ (l : List Input). HasStopped c.args.run.now l first last) (sym next.given) stopped))

pub loop-entry-preserved : goal.loop-entry-preserved
loop-entry-preserved g c = λ all.
    let i = c.loop-entry.entry-index in
    let entries = c.args.entries.now in
    let next = next_of entries i (record { code = [] }) c.loop-entry-test.true all in
    let first = g.W.Output.contents c.args.out.now in
    let last = g.W.Output.contents c.write_entry.new.out in
    subst (λ (l : List Input). HasWritten c.args.run.now c.write_entry.new.run l first last) (sym next.given)
    (written_then c.args.run.now c.loop-entry.run c.write_entry.new.run (inputs_of (inputs (take i entries))) (inputs_of (inputs_in (get_or entries i (record { code = [] })))) first (g.W.Output.contents c.loop-entry.out) last
    (c.loop-entry.invariant all) (c.in_default.ensures.ok next.is_one))
