use Rattle.std.proofs.Common.{ℕ}
use Rattle.std.specs.List.{All}
use Rattle.script.specs.Line.{HasTimes}
use Rattle.script.proofs.Reading.{HasRead, bytes_left}
use Rattle.script.proofs.lines.list_moves.Given as goal

abbrev pub invariant-loop-rest : goal.invariant-loop-rest
invariant-loop-rest l = record {
  number : ℕ;
  read : HasRead l.script number l.rest l.moves.items;
  times : All HasTimes l.moves.items;
}

abbrev pub decreases-loop-rest : goal.decreases-loop-rest
decreases-loop-rest l = bytes_left l.rest
