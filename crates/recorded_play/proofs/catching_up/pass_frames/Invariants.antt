use Rattle.std.proofs.Common.{replicate}
use Rattle.machine.specs.Machine.{Frame}
use Rattle.recorded_play.proofs.Passing.{HasPassed}
use Rattle.recorded_play.proofs.catching_up.pass_frames.Given as goal

abbrev pub invariant-loop-i : goal.invariant-loop-i
invariant-loop-i g l = HasPassed l.initial.session l.session l.skip l.left (replicate l._i (Frame l.buttons))
