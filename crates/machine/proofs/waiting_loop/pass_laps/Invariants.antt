use Rattle.std.proofs.Common.{◌<◌, ◌-◌}
use Rattle.machine.proofs.WaitingLoop.{IsRun}
use Rattle.machine.proofs.waiting_loop.pass_laps.Given as goal

abbrev pub invariant-loop-took : goal.invariant-loop-took
invariant-loop-took l = record {
  run : IsRun l.calm l.fn.passed l.took l.fn.processor l.processor;
  few : l.took < 46;
}

abbrev pub decreases-loop-took : goal.decreases-loop-took
decreases-loop-took l = 40 - l.took
