use Rattle.std.proofs.Common.{◌+◌, length, refl}
use Rattle.debugging.proofs.Parts.{count_failed, end_failed, first_failed, second_failed}
use Rattle.machine_lines.proofs.Calls.{on_err}
use Rattle.debugging.proofs.answering.write_sent.Goals as goal

pub returns-in-Err-write_whole-clause-err : goal.returns-in-Err-write_whole-clause-err
returns-in-Err-write_whole-clause-err g c =
    let first = c.sent.result.0.now in
    let second = c.sent.result.1.now in
    first_failed (length first + length second) first second c.args.run.now.sent refl c.sent.ensures (g.W.Output.contents c.args.out.now) (g.W.Output.contents c.write_count.new.out)
    (g.W.Output.contents c.write_whole.new.out) c.in_default.ensures.ok c.in-Err-write_whole.ensures.err

pub returns-in-Err-write_whole-2-clause-err : goal.returns-in-Err-write_whole-2-clause-err
returns-in-Err-write_whole-2-clause-err g c =
    let first = c.sent.result.0.now in
    let second = c.sent.result.1.now in
    second_failed (length first + length second) first second c.args.run.now.sent refl c.sent.ensures (g.W.Output.contents c.args.out.now) (g.W.Output.contents c.write_count.new.out)
    (g.W.Output.contents c.write_whole.new.out) c.in_default.ensures.ok (g.W.Output.contents c.write_whole-2.new.out) c.in_default-write_whole.ensures.ok c.in-Err-write_whole-2.ensures.err

pub returns-clause-err : goal.returns-clause-err
returns-clause-err g c =
    let first = c.sent.result.0.now in
    let second = c.sent.result.1.now in
    on_err c.write_whole-3.result
    (end_failed (length first + length second) first second c.args.run.now.sent refl c.sent.ensures (g.W.Output.contents c.args.out.now) (g.W.Output.contents c.write_count.new.out)
    (g.W.Output.contents c.write_whole.new.out) c.in_default.ensures.ok (g.W.Output.contents c.write_whole-2.new.out) c.in_default-write_whole.ensures.ok
    (g.W.Output.contents c.write_whole-3.new.out) c.in_default-write_whole-2.ensures.ok)
    c.write_whole-3.ensures.err

pub returns-in-Err-clause-err : goal.returns-in-Err-clause-err
returns-in-Err-clause-err g c =
    count_failed (length c.sent.result.0.now + length c.sent.result.1.now) c.sent.result.0.now c.sent.result.1.now c.args.run.now.sent refl c.sent.ensures
    (g.W.Output.contents c.args.out.now) (g.W.Output.contents c.write_count.new.out) c.in-Err.ensures.err
