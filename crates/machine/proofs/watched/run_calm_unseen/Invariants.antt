use Rattle.std.proofs.Common.{◌≡◌, ◌<◌, ◌≤◌, ◌-◌}
use Rattle.memory_map.specs.BusRules.{bus_rules}
use Rattle.memory_map.specs.Quiet.{IsCalm}
use Rattle.sm83_processor.specs.FastStep.{IsFast}
use Rattle.machine.specs.Watched.{seen_in}
use Rattle.machine.specs.Watching.{in_frame, IsSilent}
use Rattle.machine.proofs.watched.run_calm_unseen.Given as goal

abbrev pub invariant-loop-passed : goal.invariant-loop-passed
invariant-loop-passed g l = record {
  run : seen_in (in_frame (l.end - l.left) l.processor) ≡ seen_in (in_frame l.fn.passed l.fn.processor);
  start : l.fn.passed ≤ l.end - l.left;
  below : l.end - l.left < 17556;
  within : l.left ≤ l.end;
  end : l.end ≤ 17556;
  fast : IsFast bus_rules l.processor;
  calm : IsCalm l.left l.processor.memory;
  silent : IsSilent l.processor.memory;
}

abbrev pub decreases-loop-passed : goal.decreases-loop-passed
decreases-loop-passed g l = l.left
