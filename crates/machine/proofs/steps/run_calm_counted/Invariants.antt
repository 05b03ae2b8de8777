use Rattle.std.proofs.Common.{◌≡◌, ◌<◌, ◌≤◌}
use Rattle.memory_map.specs.BusRules.{bus_rules}
use Rattle.memory_map.specs.Quiet.{IsCalm}
use Rattle.sm83_processor.specs.FastStep.{IsFast}
use Rattle.sm83_processor.specs.Steps.{after_steps}
use Rattle.machine.proofs.steps.run_calm_counted.Given as goal

abbrev pub invariant-loop-left : goal.invariant-loop-left
invariant-loop-left g l = record {
  run : after_steps bus_rules l.left l.processor ≡ after_steps bus_rules l.fn.left l.fn.processor;
  most : l.left ≤ l.fn.left;
  some : 0 < l.left;
  enough : l.calm ≤ l.left;
  within : l.calm ≤ l.end;
  end : l.end ≤ 17556;
  fast : IsFast bus_rules l.processor;
  calm : IsCalm l.calm l.processor.memory;
}

abbrev pub decreases-loop-left : goal.decreases-loop-left
decreases-loop-left g l = l.left
