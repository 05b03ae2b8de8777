use Rattle.std.proofs.Common.{◌≡◌, ◌+◌, drop}
use Rattle.debugging.specs.Conditions.{number_of}
use Rattle.debugging.specs.Quiet.{is_aim}
use Rattle.debugging.proofs.aims.number_of.Given as goal

abbrev pub invariant-loop-aim : goal.invariant-loop-aim
invariant-loop-aim l = record {
  number : number_of (is_aim l.processor) l.aims ≡ l.number + number_of (is_aim l.processor) (drop l.aim-index l.aims);
  count : l.number ≡ l.aim-index;
}
