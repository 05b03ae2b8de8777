use Rattle.std.proofs.Common.{◌≡◌, ◌<◌, ℕ, true, false, get_or, map}
use Rattle.std.specs.List.{filter, range_with_len}
use Rattle.picture_lines.specs.Pixel.{covers_line, object_at}
use Rattle.picture_lines.specs.declared.registers.LineRegisters.{LineRegisters}
use Rattle.picture_unit.proofs.rows.KeptRows.follow.Given as goal

abbrev pub invariant-loop-index : goal.invariant-loop-index
invariant-loop-index l = record {
  lines : l.self.drawn_by ≡ l.fn.self.drawn_by;
  some : l.self.has_some ≡ l.fn.self.has_some;
  fewer : (y : ℕ) → get_or l.self.are_marked y false ≡ true → get_or l.fn.self.are_marked y false ≡ true;
  found : (y : ℕ) → y < 144 → get_or l.self.are_marked y false ≡ true → (by : LineRegisters) → (get_or l.fn.self.drawn_by y by).ly ≡ y →
      filter (covers_line (get_or l.fn.self.drawn_by y by)) (map (object_at l.before) (range_with_len 0 l.index))
      ≡ filter (covers_line (get_or l.fn.self.drawn_by y by)) (map (object_at l.after) (range_with_len 0 l.index));
}
