use Rattle.std.proofs.Common.{◌≡◌, ◌+◌, ◌<◌, ◌≤◌, ◌-◌, ◌*◌, ℕ, length}
use Rattle.memory_map.specs.State.{BusState}
use Rattle.memory_map.specs.BusRules.{bus_rules}
use Rattle.memory_map.specs.Quiet.{IsCalm}
use Rattle.sm83_processor.specs.FastStep.{IsFast}
use Rattle.sm83_processor.specs.declared.processor.Processor.{Processor}
use Rattle.machine.specs.FastRuns.{IsPassing}
use Rattle.machine.proofs.passing.run_calm_watching.Given as goal

abbrev pub invariant-loop-made : goal.invariant-loop-made
invariant-loop-made g l = record {
  run : (begun : Processor BusState) → (before : ℕ) → IsPassing (g.W.Watch.passes l.watch) l.fn.made before begun l.fn.processor l.fn.kept
      → IsPassing (g.W.Watch.passes l.watch) l.made (before + (l.end - l.left)) begun l.processor l.kept;
  room : length l.kept ≡ length l.fn.kept;
  start : l.fn.made ≤ l.made;
  due : l.made < l.most;
  enough : l.made + l.left ≤ l.most;
  within : l.left ≤ l.end;
  few : l.end - l.left + 6 * l.fn.made ≤ 6 * l.made;
  end : l.end ≤ 17556;
  fast : IsFast bus_rules l.processor;
  calm : IsCalm l.left l.processor.memory;
}

abbrev pub decreases-loop-made : goal.decreases-loop-made
decreases-loop-made g l = l.most - l.made
