use Rattle.exact_text.proofs.Writes.{whole_then_prefix}
use Rattle.machine_lines.proofs.Calls.{on_err}
use Rattle.machine_lines.proofs.states.write_both.Goals as goal

pub returns-clause-err : goal.returns-clause-err
returns-clause-err g c =
    on_err c.write_whole-2.result
    (whole_then_prefix (g.W.Output.contents c.args.out.now) (g.W.Output.contents c.write_whole.new.out) (g.W.Output.contents c.write_whole-2.new.out) c.args.first.now c.args.second.now c.in_default.ensures.ok)
    c.write_whole-2.ensures.err
