use Rattle.std.proofs.Common.{◌≡◌, ◌<◌, ◌≤◌, ℕ, true, false, length, get_or}
use Rattle.picture_lines.specs.Choice.{IsChoice}
use Rattle.picture_unit.specs.LateRows.{shown, AreKept}
use Rattle.picture_unit.proofs.rows.LateLines.draw.Given as goal

abbrev pub invariant-loop-y : goal.invariant-loop-y
invariant-loop-y l = record {
  tiles : l.tiles ≡ l.fn.tiles;
  objects : IsChoice l.objects l.oam;
  row_count : length l.rows ≡ 144;
  late_count : length l.self.are_late ≡ 144;
  drawn_by : l.self.drawn_by ≡ l.fn.self.drawn_by;
  some : l.kept.has_some ≡ true;
  kept : AreKept l.kept l.rows l.fn.tiles l.oam;
  none : (y : ℕ) → y < l.y → get_or l.self.are_late y false ≡ false;
  behind : (y : ℕ) → l.end ≤ y → y < 144 → get_or l.self.are_late y false ≡ false;
  rows : shown l.self.are_late l.fn.self.drawn_by l.fn.tiles l.oam l.rows ≡ shown l.fn.self.are_late l.fn.self.drawn_by l.fn.tiles l.oam l.fn.rows;
}
