use Rattle.std.proofs.Common.{◌≡◌, take, map}
use Rattle.std.specs.List.{filter, range_with_len}
use Rattle.picture_lines.specs.Pixel.{covers_line, object_at}
use Rattle.picture_lines.proofs.registers.LineRegisters.selected_objects.Given as goal

abbrev pub invariant-loop-index : goal.invariant-loop-index
invariant-loop-index l = l.selected.items ≡ take 10 (filter (covers_line l.self) (map (object_at l.oam) (range_with_len 0 l.index)))
