use Rattle.std.proofs.Common.{◌≤◌, ◌<◌, ◌+◌, ℕ, drop}
use Rattle.picture_lines.specs.Layers.{IsLayered}
use Rattle.picture_lines.proofs.registers.LineRegisters.put_object.Given as goal

abbrev pub invariant-loop-across : goal.invariant-loop-across
invariant-loop-across l = record {
  put : (x : ℕ) → x < 160 → x + 8 < l.object.x + l.across → IsLayered l.self l.tiles (drop l.index l.selected) l.overlay.shades l.overlay.fronts x;
  left : (x : ℕ) → x < 160 → l.object.x + l.across ≤ x + 8 → IsLayered l.self l.tiles (drop (l.index + 1) l.selected) l.overlay.shades l.overlay.fronts x;
}
