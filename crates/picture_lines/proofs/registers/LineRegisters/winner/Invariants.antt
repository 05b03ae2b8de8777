use Rattle.std.proofs.Common.{◌≡◌, ◌≤◌, drop, length, true}
use Rattle.std.specs.Prelude.{filter, IfSome}
use Rattle.picture_lines.specs.Pixel.{winner, is_seen, covers_line}
use Rattle.picture_lines.proofs.registers.LineRegisters.winner.Given as goal

abbrev pub invariant-loop-index : goal.invariant-loop-index
invariant-loop-index l = record {
  within : l.index ≤ length l.selected;
  in_front : l.front ≡ winner (filter (is_seen l.self l.vram l.column) (drop l.index l.selected));
  covered : IfSome l.front (λ o. covers_line l.self o ≡ true);
}

abbrev pub decreases-loop-index : goal.decreases-loop-index
decreases-loop-index l = l.index
