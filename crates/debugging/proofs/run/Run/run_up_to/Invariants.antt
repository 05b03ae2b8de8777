use Rattle.debugging.specs.Quiet.{is_any}
use Rattle.debugging.proofs.Runs.{IsGoing}
use Rattle.debugging.proofs.run.Run.run_up_to.Given as goal

abbrev pub invariant-loop-left : goal.invariant-loop-left
invariant-loop-left g l = IsGoing (is_any l.fn.aims) l.limit l.left l.fn.self l.run

abbrev pub decreases-loop-left : goal.decreases-loop-left
decreases-loop-left g l = l.left
