use Rattle.std.proofs.Common.{◌≡◌, ◌-◌}
use Rattle.memory_map.specs.BusRules.{bus_rules}
use Rattle.debugger.specs.Report.{step_lines}
use Rattle.debugger.proofs.Lines.{IsWrittenBut}
use Rattle.debugging.specs.Run.{after_steps_of, processor_of}
use Rattle.debugging.proofs.answering.write_steps.Given as goal

abbrev pub invariant-loop-i : goal.invariant-loop-i
invariant-loop-i g l = record {
  run : l.run ≡ after_steps_of l._i l.fn.run;
  written : IsWrittenBut (step_lines bus_rules (l.count - l._i) (processor_of l.run)) (step_lines bus_rules l.count (processor_of l.fn.run)) (g.W.Output.contents l.fn.out) (g.W.Output.contents l.out);
}
