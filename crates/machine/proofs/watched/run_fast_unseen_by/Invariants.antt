use Rattle.std.proofs.Common.{◌≡◌, ◌<◌, ◌≤◌, ◌-◌}
use Rattle.memory_map.specs.BusRules.{bus_rules}
use Rattle.sm83_processor.specs.FastStep.{IsFast}
use Rattle.machine.specs.Watched.{seen_in}
use Rattle.machine.specs.Watching.{in_frame, IsSilent}
use Rattle.machine.proofs.watched.run_fast_unseen_by.Given as goal

abbrev pub invariant-loop-went : goal.invariant-loop-went
invariant-loop-went g l = record {
  run : seen_in (in_frame l.passed l.processor) ≡ seen_in (in_frame l.fn.passed l.fn.processor);
  start : l.fn.passed ≤ l.passed;
  below : l.passed < 17556;
  fast : IsFast bus_rules l.processor;
  silent : IsSilent l.processor.memory;
}

abbrev pub decreases-loop-went : goal.decreases-loop-went
decreases-loop-went g l = 17556 - l.passed
