use Rattle.std.proofs.Common.{◌≡◌, ◌<◌, ◌≤◌, ◌-◌}
use Rattle.memory_map.specs.BusRules.{bus_rules}
use Rattle.machine.specs.Machine.{steps_until}
use Rattle.sm83_processor.specs.FastStep.{IsFast}
use Rattle.machine.proofs.frame.run_fast_steps_by.Given as goal

abbrev pub invariant-loop-passed : goal.invariant-loop-passed
invariant-loop-passed g l = record {
  run : steps_until bus_rules 17556 l.passed l.processor ≡ steps_until bus_rules 17556 l.fn.passed l.fn.processor;
  start : l.fn.passed ≤ l.passed;
  below : l.passed < l.fn.until;
  fast : IsFast bus_rules l.processor;
}

abbrev pub decreases-loop-passed : goal.decreases-loop-passed
decreases-loop-passed g l = 17556 - l.passed
