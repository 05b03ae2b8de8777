use Rattle.std.proofs.Common.{◌≡◌, ◌<◌, ◌≤◌, ◌-◌}
use Rattle.memory_map.specs.BusRules.{bus_rules}
use Rattle.machine.specs.Machine.{steps_until}
use Rattle.sm83_processor.specs.FastStep.{IsFast}
use Rattle.machine.proofs.frame.run_piece.Given as goal

abbrev pub invariant-loop-passed : goal.invariant-loop-passed
invariant-loop-passed l = record {
  run : steps_until bus_rules 17556 l.passed l.processor ≡ steps_until bus_rules 17556 l.fn.passed l.fn.processor;
  start : l.fn.passed ≤ l.passed;
  few : l.passed < 17562;
  fast : IsFast bus_rules l.processor;
}

abbrev pub decreases-loop-passed : goal.decreases-loop-passed
decreases-loop-passed l = 17556 - l.passed
