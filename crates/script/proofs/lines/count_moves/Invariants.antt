use Rattle.std.proofs.Common.{◌≡◌, ◌≤◌, ◌<◌, ◌+◌, length, List}
use Rattle.script.specs.declared.moves.Move.{Move}
use Rattle.script.proofs.Reading.{HasRead, bytes_left}
use Rattle.script.proofs.lines.count_moves.Given as goal

abbrev pub invariant-loop-rest : goal.invariant-loop-rest
invariant-loop-rest l = record {
  done : List Move;
  read : HasRead l.script l.number l.rest done;
  count : length done ≡ l.count;
  below : l.count < l.number;
  room : l.number + bytes_left l.rest ≤ length l.script + 2;
}

abbrev pub decreases-loop-rest : goal.decreases-loop-rest
decreases-loop-rest l = bytes_left l.rest
