use Rattle.std.proofs.Common.{◌≡◌, ℕ, ◌<◌, get_or, length}
use Rattle.picture_lines.specs.Pixel.{shade_at}
use Rattle.picture_lines.proofs.registers.LineRegisters.draw_by_definition.Given as goal

abbrev pub invariant-loop-column : goal.invariant-loop-column
invariant-loop-column l = record {
  size : length l.row ≡ 160;
  drawn : (k : ℕ) → k < l.column → get_or l.row k 0 ≡ shade_at l.self l.vram l.selected.items k;
}
