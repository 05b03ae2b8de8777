use Rattle.exact_text.proofs.Writes.{appends_twice, whole_then_prefix, prefix_of_longer}
use Rattle.memory_map.specs.BusRules.{bus_rules}
use Rattle.playing.specs.Lines.{resumed_line}
use Rattle.debugger.specs.Report.{step_lines}
use Rattle.commands.proofs.trace.write_text.Goals as goal

pub returns-in-Err-clause-err : goal.returns-in-Err-clause-err
returns-in-Err-clause-err g c = prefix_of_longer _ _ (resumed_line c.args.inputs).text (step_lines bus_rules c.args.count c.args.debugger.now.machine.processor) c.in-Err.ensures.err

pub returns-in-Ok-clause-ok : goal.returns-in-Ok-clause-ok
returns-in-Ok-clause-ok g c =
    appends_twice (g.W.Output.contents c.args.out.now) (g.W.Output.contents c.write_resumed.new.out) (g.W.Output.contents c.write_steps.new.out) (resumed_line c.args.inputs).text
    (step_lines bus_rules c.args.count c.args.debugger.now.machine.processor) c.in_default.ensures.ok c.in-Ok.ensures.ok

pub returns-in-Err-write_steps-clause-err : goal.returns-in-Err-write_steps-clause-err
returns-in-Err-write_steps-clause-err g c =
    whole_then_prefix (g.W.Output.contents c.args.out.now) (g.W.Output.contents c.write_resumed.new.out) (g.W.Output.contents c.write_steps.new.out) (resumed_line c.args.inputs).text
    (step_lines bus_rules c.args.count c.args.debugger.now.machine.processor) c.in_default.ensures.ok c.in-Err-write_steps.ensures.err
