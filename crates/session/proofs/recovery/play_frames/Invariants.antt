use Rattle.std.proofs.Common.{◌≡◌, ◌-◌, replicate}
use Rattle.machine.specs.Machine.{after}
use Rattle.machine.specs.Machine.{Frame}
use Rattle.session.proofs.recovery.play_frames.Given as goal

abbrev pub invariant-loop-i : goal.invariant-loop-i
invariant-loop-i l = after l.machine (replicate (l.times - l._i) (Frame l.buttons)) ≡ after l.initial.machine (replicate l.times (Frame l.buttons))
