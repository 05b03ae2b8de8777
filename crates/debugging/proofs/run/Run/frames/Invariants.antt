use Rattle.std.proofs.Common.{◌≡◌}
use Rattle.debugging.specs.Run.{after_frames}
use Rattle.debugging.proofs.run.Run.frames.Given as goal

abbrev pub invariant-loop-i : goal.invariant-loop-i
invariant-loop-i l = l.run ≡ after_frames l._i l.buttons l.fn.self
