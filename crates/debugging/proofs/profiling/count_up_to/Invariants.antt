use Rattle.std.proofs.Common.{◌≡◌, ◌-◌, ◌*◌, length}
use Rattle.debugging.specs.Counting.{IsWithin}
use Rattle.debugging.specs.Profile.{with_steps}
use Rattle.debugging.specs.Quiet.{is_any}
use Rattle.debugging.specs.Run.{processor_of}
use Rattle.debugging.proofs.Runs.{IsGoing}
use Rattle.debugging.proofs.profiling.count_up_to.Given as goal

abbrev pub invariant-loop-left : goal.invariant-loop-left
invariant-loop-left l = record {
  going : IsGoing (is_any l.aims) l.limit l.left l.fn.run l.now;
  counted : l.counts ≡ with_steps (l.limit - l.left) (processor_of l.fn.run) l.fn.counts;
  within : IsWithin (255 * (l.limit - l.left)) l.counts;
  size : length l.counts.rom ≡ l.rom;
}

abbrev pub decreases-loop-left : goal.decreases-loop-left
decreases-loop-left l = l.left
