-- A line while its objects are put over its background, from the last to the first. Column x stands
-- at index x + 8.
use Rattle.std.specs.Prelude.{◌≡◌, ℕ, ◌+◌, List, filter, slice_index, Option, None, Some}
use Rattle.picture_lines.specs.Pixel.{shade_at, winner, is_seen, background_colour, background_shade}
use Rattle.picture_lines.specs.declared.registers.LineRegisters.{LineRegisters}
use Rattle.picture_lines.specs.declared.object_entry.Object.{Object}

-- the colours and shades of the background
pub record IsBackground (s : LineRegisters) (vram colours shades : List ℕ) (x : ℕ) : Type 0 where
  pub colour : slice_index colours (x + 8) ≡ background_colour s vram x
  pub shade : slice_index shades (x + 8) ≡ background_shade s vram x

-- X of the object in front, or more than any X where there is none
unfoldable pub winner_x : Option Object → ℕ
winner_x None = 255
winner_x (Some o) = o.x

-- the shades with some objects put over the background, and X of the one in front
pub record IsLayered (s : LineRegisters) (vram : List ℕ) (objects : List Object) (shades fronts : List ℕ) (x : ℕ) : Type 0 where
  pub shade : slice_index shades (x + 8) ≡ shade_at s vram objects x
  pub front : slice_index fronts (x + 8) ≡ winner_x (winner (filter (is_seen s vram x) objects))
