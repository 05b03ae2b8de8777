use Rattle.std.proofs.Common.{◌≡◌, take, false}
use Rattle.debugging.specs.Quiet.{is_any}
use Rattle.debugging.proofs.passing.may_be_any.Given as goal

abbrev pub invariant-loop-aim : goal.invariant-loop-aim
invariant-loop-aim l = is_any (take l.aim-index l.aims) l.processor ≡ false
