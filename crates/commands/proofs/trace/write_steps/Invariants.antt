use Rattle.std.proofs.Common.{◌-◌}
use Rattle.memory_map.specs.BusRules.{bus_rules}
use Rattle.debugger.proofs.Lines.{IsWrittenBut}
use Rattle.debugger.specs.Report.{step_lines}
use Rattle.commands.proofs.trace.write_steps.Given as goal

abbrev pub invariant-loop-i : goal.invariant-loop-i
invariant-loop-i g l =
    IsWrittenBut (step_lines bus_rules (l.count - l._i) l.debugger.machine.processor) (step_lines bus_rules l.count l.fn.debugger.machine.processor) (g.W.Output.contents l.fn.out) (g.W.Output.contents l.out)
