use Rattle.std.proofs.Common.{◌≡◌, ◌≤◌, ◌<◌, ℕ, true, false, get_or}
use Rattle.picture_lines.specs.Pixel.{covers_line}
use Rattle.picture_lines.specs.declared.registers.LineRegisters.{LineRegisters}
use Rattle.picture_unit.proofs.rows.KeptRows.unmark.Given as goal

abbrev pub invariant-loop-y : goal.invariant-loop-y
invariant-loop-y l = record {
  lines : l.self.drawn_by ≡ l.fn.self.drawn_by;
  some : l.self.has_some ≡ l.fn.self.has_some;
  fewer : (j : ℕ) → get_or l.self.are_marked j false ≡ true → get_or l.fn.self.are_marked j false ≡ true;
  beside : (j : ℕ) → l.top ≤ j → j < l.y → get_or l.self.are_marked j false ≡ true →
      (by : LineRegisters) → (get_or l.fn.self.drawn_by j by).ly ≡ j → covers_line (get_or l.fn.self.drawn_by j by) l.object ≡ false;
}
