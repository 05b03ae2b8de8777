-- Which objects are known to be those of a line.
use Rattle.std.specs.Prelude.{◌≡◌, ℕ, ◌+◌, ◌<◌, ◌≤◌, List, take, filter}
use Rattle.picture_lines.specs.Bits.{has_bit}
use Rattle.picture_lines.specs.Pixel.{covers_line, objects_of}
use Rattle.picture_lines.specs.declared.registers.LineRegisters.{LineRegisters}
use Rattle.picture_lines.specs.declared.chosen.ChosenObjects.{ChosenObjects}

-- on each line from the first one up to the end, at their height, they are the first ten that cover it
pub record IsChoice (c : ChosenObjects) (oam : List ℕ) : Type 0 where
  pub right : (s : LineRegisters) → c.first ≤ s.ly + 16 → s.ly + 16 < c.end → has_bit s.lcdc 2 ≡ c.is_tall →
      c.objects.items ≡ take 10 (filter (covers_line s) (objects_of oam))
