-- The shade of one pixel, from the registers of its line, VRAM and OAM (Pan Docs, "Rendering").
use Rattle.std.specs.Prelude.{ℕ, ◌+◌, ◌*◌, ◌-◌, ◌/◌, ◌%◌, Bool, not, ◌&&◌, ◌||◌, nat_le, nat_lt, ◌==◌, if◌then◌else◌, List, [], ◌∷◌, map, filter, take, slice_index, Option, None, Some}
use Rattle.std.specs.List.{range_with_len}
use Rattle.picture_lines.specs.Bits.{has_bit, shade_of, plane_colour}
use Rattle.picture_lines.specs.declared.registers.LineRegisters.{LineRegisters}
use Rattle.picture_lines.specs.declared.object_entry.Object.{Object}

-- Tile row i of VRAM is the bytes 2 i (low plane) and 2 i + 1 (high plane); row r of tile t has the
-- number 8 t + r.
unfoldable pub row_colour : (vram : List ℕ) (row column : ℕ) → ℕ
row_colour vram row column =
    plane_colour (slice_index vram (2 * row)) (slice_index vram (2 * row + 1)) column

-- the tile, from 0 to 383, that a byte of a map means: counted from 8000, or signed from 9000
unfoldable pub tile_of : (lcdc number : ℕ) → ℕ
tile_of lcdc number = if has_bit lcdc 4 || nat_le 128 number then number else number + 256

-- where a map begins in VRAM, 9C00 or 9800 by a bit of LCDC
unfoldable pub map_start : (lcdc place : ℕ) → ℕ
map_start lcdc place = if has_bit lcdc place then 7168 else 6144

-- the tile row that holds a column and a row of a map
unfoldable pub map_row : (lcdc : ℕ) (vram : List ℕ) (start column row : ℕ) → ℕ
map_row lcdc vram start column row =
    8 * tile_of lcdc (slice_index vram (start + 32 * (row / 8) + column / 8)) + row % 8

-- the colour at a column and a row of a map, both below 256
unfoldable pub map_colour : (lcdc : ℕ) (vram : List ℕ) (start column row : ℕ) → ℕ
map_colour lcdc vram start column row =
    row_colour vram (map_row lcdc vram start column row) (column % 8)

-- an object's shade over the background's colour and shade; the background is shown where the object
-- stands behind it
unfoldable pub shade_over : Object → (shade under under_shade : ℕ) → ℕ
shade_over o shade under under_shade =
    if has_bit o.attributes 7 && not (under == 0) then under_shade else shade

module _ (s : LineRegisters) where
  -- whether the line has a window, at any column: WX 00 and A6 are values as any other (fixed profile)
  unfoldable pub is_window_drawn : Bool
  is_window_drawn =
      has_bit s.lcdc 5 && has_bit s.lcdc 0 && s.seen && nat_le s.wx 166

  -- the colour of the background or the window at column x
  unfoldable pub background_colour : List ℕ → ℕ → ℕ
  background_colour vram x =
      if not (has_bit s.lcdc 0) then 0
      else if is_window_drawn && nat_le s.wx (x + 7)
      then map_colour s.lcdc vram (map_start s.lcdc 6) (x + 7 - s.wx) s.window_counter
      else map_colour s.lcdc vram (map_start s.lcdc 3) ((s.scx + x) % 256) ((s.scy + s.ly) % 256)

  -- its shade
  unfoldable pub background_shade : List ℕ → ℕ → ℕ
  background_shade vram x =
      if has_bit s.lcdc 0 then shade_of s.bgp (background_colour vram x) else 0

  unfoldable pub object_height : ℕ
  object_height = if has_bit s.lcdc 2 then 16 else 8

  -- whether an object covers the line
  unfoldable pub covers_line : Object → Bool
  covers_line o = nat_le o.y (s.ly + 16) && nat_lt (s.ly + 16) (o.y + object_height)

  -- the objects of the line, in OAM order
  unfoldable pub selected_objects : List Object → List Object
  selected_objects all = if has_bit s.lcdc 1 then take 10 (filter covers_line all) else []

  -- the tile row of an object on the line
  unfoldable pub object_row : Object → ℕ
  object_row o =
      let row = s.ly + 16 - o.y
      in let tile = if has_bit s.lcdc 2 then 2 * (o.tile / 2) else o.tile
      in 8 * tile + (if has_bit o.attributes 6 then object_height - 1 - row else row)

  -- the colour of an object at column x: 0 where it doesn't reach
  unfoldable pub object_colour : List ℕ → ℕ → Object → ℕ
  object_colour vram x o =
      if nat_le o.x (x + 8) && nat_lt (x + 8) (o.x + 8)
      then row_colour vram (object_row o) (if has_bit o.attributes 5 then 7 - (x + 8 - o.x) else x + 8 - o.x)
      else 0

  unfoldable pub object_palette : Object → ℕ
  object_palette o = if has_bit o.attributes 4 then s.obp1 else s.obp0

  -- an object's shade at column x, over the background
  unfoldable pub object_shade : List ℕ → ℕ → Object → ℕ
  object_shade vram x o =
      shade_over o (shade_of (object_palette o) (object_colour vram x o)) (background_colour vram x)
      (background_shade vram x)

  -- the shade at column x where the object in front there is known
  unfoldable pub shade_under : List ℕ → ℕ → Option Object → ℕ
  shade_under vram x None = background_shade vram x
  shade_under vram x (Some o) = object_shade vram x o

  -- whether an object has a colour other than 0 at column x
  unfoldable pub is_seen : List ℕ → ℕ → Object → Bool
  is_seen vram x o = not (object_colour vram x o == 0)

-- of an object and the one in front of those after it in OAM, the one of smaller X, or else the
-- first
unfoldable pub in_front : Object → Option Object → Option Object
in_front o None = Some o
in_front o (Some other) = if nat_le o.x other.x then Some o else Some other

-- of objects in OAM order, the one in front: the smallest X, and of those the first
unfoldable pub winner : List Object → Option Object
winner [] = None
winner (o ∷ rest) = in_front o (winner rest)

unfoldable pub object_at : List ℕ → ℕ → Object
object_at oam i = record {
  y = slice_index oam (4 * i);
  x = slice_index oam (4 * i + 1);
  tile = slice_index oam (4 * i + 2);
  attributes = slice_index oam (4 * i + 3);
}

unfoldable pub objects_of : List ℕ → List Object
objects_of oam = map (object_at oam) (range_with_len 0 40)

-- the shade at column x, of the selected objects
unfoldable pub shade_at : LineRegisters → List ℕ → List Object → ℕ → ℕ
shade_at s vram selected x = shade_under s vram x (winner (filter (is_seen s vram x) selected))

-- the shade at column x of the line
unfoldable pub pixel : LineRegisters → (vram oam : List ℕ) → ℕ → ℕ
pixel s vram oam x = shade_at s vram (selected_objects s (objects_of oam)) x

-- the 160 shades of the line
unfoldable pub drawn_row : LineRegisters → (vram oam : List ℕ) → List ℕ
drawn_row s vram oam = map (pixel s vram oam) (range_with_len 0 160)
