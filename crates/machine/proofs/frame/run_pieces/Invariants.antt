use Rattle.std.proofs.Common.{◌≡◌, ◌<◌, ◌≤◌, ◌-◌}
use Rattle.memory_map.specs.BusRules.{bus_rules}
use Rattle.machine.specs.Machine.{steps_until}
use Rattle.sm83_processor.specs.FastStep.{IsFast}
use Rattle.machine.proofs.frame.run_pieces.Given as goal

abbrev pub invariant-loop-before : goal.invariant-loop-before
invariant-loop-before l = record {
  run : steps_until bus_rules 17556 l.passed l.processor ≡ steps_until bus_rules 17556 l.fn.passed l.fn.processor;
  start : l.fn.passed ≤ l.passed;
  below : l.passed < 17556;
  some : 0 < l.most;
  fast : IsFast bus_rules l.processor;
}

abbrev pub decreases-loop-before : goal.decreases-loop-before
decreases-loop-before l = 17556 - l.passed
