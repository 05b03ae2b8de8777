use Rattle.std.proofs.Common.{◌≡◌, length}
use Rattle.debugger.proofs.Marks.{FirstAreMarked}
use Rattle.debugger.proofs.breaks.marks_of.Given as goal

abbrev pub invariant-loop-at : goal.invariant-loop-at
invariant-loop-at l = (length l.marks ≡ 256) × FirstAreMarked l.marks l.addresses l.at-index
