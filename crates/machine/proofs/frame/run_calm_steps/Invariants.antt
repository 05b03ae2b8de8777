use Rattle.std.proofs.Common.{◌≡◌, ◌<◌, ◌≤◌, ◌-◌}
use Rattle.memory_map.specs.BusRules.{bus_rules}
use Rattle.memory_map.specs.Quiet.{IsCalm}
use Rattle.machine.specs.Machine.{steps_until}
use Rattle.sm83_processor.specs.FastStep.{IsFast}
use Rattle.machine.proofs.frame.run_calm_steps.Given as goal

abbrev pub invariant-loop-passed : goal.invariant-loop-passed
invariant-loop-passed g l = record {
  run : steps_until bus_rules 17556 (l.end - l.left) l.processor ≡ steps_until bus_rules 17556 l.fn.passed l.fn.processor;
  start : l.fn.passed ≤ l.end - l.left;
  below : l.end - l.left < 17556;
  within : l.left ≤ l.end;
  end : l.end ≤ 17556;
  fast : IsFast bus_rules l.processor;
  calm : IsCalm l.left l.processor.memory;
}

abbrev pub decreases-loop-passed : goal.decreases-loop-passed
decreases-loop-passed g l = l.left
