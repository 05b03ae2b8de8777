use Rattle.std.proofs.Common.{◌≡◌, ◌≤◌, ◌<◌, ℕ, drop, length}
use Rattle.picture_lines.specs.Layers.{IsLayered}
use Rattle.picture_lines.proofs.registers.LineRegisters.draw_selected.Given as goal

abbrev pub invariant-loop-index : goal.invariant-loop-index
invariant-loop-index l = record {
  within : l.index ≤ length l.selected;
  same : l.tiles ≡ l.fn.tiles;
  layered : (x : ℕ) → x < 160 → IsLayered l.self l.tiles (drop l.index l.selected) l.overlay.shades l.overlay.fronts x;
}

abbrev pub decreases-loop-index : goal.decreases-loop-index
decreases-loop-index l = l.index
