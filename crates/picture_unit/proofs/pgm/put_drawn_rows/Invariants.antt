use Rattle.std.proofs.Common.{◌≡◌, ◌+◌, ◌<◌, ℕ, length, get_or, []}
use Rattle.picture_unit.specs.Pgm.{row_text}
use Rattle.picture_unit.proofs.pgm.put_drawn_rows.Given as goal

abbrev pub invariant-loop-index : goal.invariant-loop-index
invariant-loop-index l = record {
  size : length l.texts ≡ 24;
  written : (i : ℕ) → i < l.index → get_or l.texts i [] ≡ row_text (get_or l.rows (l.first + i) []);
}
