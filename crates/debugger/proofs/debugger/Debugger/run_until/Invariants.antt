use Rattle.std.proofs.Common.{◌≤◌, ◌-◌}
use Rattle.debugger.specs.Run.{HasPassed, IsElsewhere}
use Rattle.debugger.proofs.debugger.Debugger.run_until.Given as goal

abbrev pub invariant-loop-made : goal.invariant-loop-made
invariant-loop-made l = record {
  run : HasPassed (IsElsewhere l.breaks) l.made l.fn.self l.self;
  most : l.made ≤ l.limit;
}

abbrev pub decreases-loop-made : goal.decreases-loop-made
decreases-loop-made l = l.limit - l.made
