use Rattle.std.proofs.Common.{◌≡◌, ◌<◌, ◌-◌, ◌*◌, ◌≤◌, length}
use Rattle.memory_map.specs.BusRules.{bus_rules}
use Rattle.sm83_processor.specs.FastStep.{IsFast}
use Rattle.machine.specs.FastRuns.{IsPassing}
use Rattle.machine.proofs.passing.run_watching.Given as goal

abbrev pub invariant-loop-processor : goal.invariant-loop-processor
invariant-loop-processor g l = record {
  run : IsPassing (g.W.Watch.passes l.watch) l.made l.cycles l.fn.processor l.processor l.kept;
  room : length l.kept ≡ length l.fn.kept;
  due : l.made < l.most;
  few : l.cycles ≤ 6 * l.made;
  fast : IsFast bus_rules l.processor;
}

abbrev pub decreases-loop-processor : goal.decreases-loop-processor
decreases-loop-processor g l = l.most - l.made
