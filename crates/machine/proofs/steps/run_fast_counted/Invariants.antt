use Rattle.std.proofs.Common.{◌≡◌, ◌≤◌}
use Rattle.memory_map.specs.BusRules.{bus_rules}
use Rattle.sm83_processor.specs.FastStep.{IsFast}
use Rattle.sm83_processor.specs.Steps.{after_steps}
use Rattle.machine.proofs.steps.run_fast_counted.Given as goal

abbrev pub invariant-loop-left : goal.invariant-loop-left
invariant-loop-left l = record {
  run : after_steps bus_rules l.left l.processor ≡ after_steps bus_rules l.fn.left l.fn.processor;
  most : l.left ≤ l.fn.left;
  fast : IsFast bus_rules l.processor;
}

abbrev pub decreases-loop-left : goal.decreases-loop-left
decreases-loop-left l = l.left
