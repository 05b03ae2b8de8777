use Rattle.std.proofs.Common.{◌≡◌, ◌<◌, ◌≤◌, ◌-◌}
use Rattle.machine.specs.Watched.{seen_in}
use Rattle.machine.specs.Watching.{in_frame}
use Rattle.machine.proofs.watched.WatchedFrame.run_on.Given as goal

abbrev pub invariant-loop-passed : goal.invariant-loop-passed
invariant-loop-passed l = record {
  run : seen_in (in_frame l.passed l.processor) ≡ seen_in l.fn.self;
  start : l.fn.self.passed ≤ l.passed;
  few : l.passed < 17562;
}

abbrev pub decreases-loop-passed : goal.decreases-loop-passed
decreases-loop-passed l = 17556 - l.passed
