use Rattle.std.proofs.Common.{◌≡◌, ◌<◌, ◌-◌}
use Rattle.memory_map.specs.BusRules.{bus_rules}
use Rattle.machine.specs.Machine.{frame_of, steps_until}
use Rattle.machine.proofs.frame.run_frame.Given as goal

abbrev pub invariant-loop-passed : goal.invariant-loop-passed
invariant-loop-passed l = record {
  run : steps_until bus_rules 17556 l.passed l.processor ≡ frame_of bus_rules l.fn.overrun l.fn.processor;
  few : l.passed < 17562;
}

abbrev pub decreases-loop-passed : goal.decreases-loop-passed
decreases-loop-passed l = 17556 - l.passed
