use Rattle.std.proofs.Common.{◌≡◌, ◌≤◌, ◌<◌, ◌+◌, take, map}
use Rattle.std.specs.List.{filter, range_with_len}
use Rattle.picture_lines.specs.Bits.{has_bit}
use Rattle.picture_lines.specs.Pixel.{covers_line, object_at}
use Rattle.picture_lines.specs.declared.registers.LineRegisters.{LineRegisters}
use Rattle.picture_lines.proofs.registers.LineRegisters.choice.Given as goal

abbrev pub invariant-loop-index : goal.invariant-loop-index
invariant-loop-index l = record {
  later : l.self.ly + 16 < l.end;
  right : (s : LineRegisters) → l.self.ly ≤ s.ly → s.ly + 16 < l.end → has_bit s.lcdc 2 ≡ has_bit l.self.lcdc 2 →
      l.objects.items ≡ take 10 (filter (covers_line s) (map (object_at l.oam) (range_with_len 0 l.index)));
}
