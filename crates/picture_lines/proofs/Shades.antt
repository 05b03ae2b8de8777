-- Every shade is below 4.
use Rattle.std.proofs.Common.{ℕ, ◌<◌, Bool, true, false, List, arith, map}
use Rattle.std.specs.Prelude.{All, Option, None, Some, ◌&&◌, not, ◌==◌, if◌then◌else◌, filter}
use Rattle.std.specs.List.{range_with_len}
use Rattle.std.proofs.lemmas.List.FromFn.{get_or-map-range_with_len, length-map-range_with_len}
use Rattle.picture_lines.specs.Bits.{has_bit, shade_of}
use Rattle.picture_lines.specs.Pixel.{background_colour, background_shade, object_colour, object_shade, object_palette, shade_over, shade_under, shade_at, pixel, drawn_row, selected_objects, objects_of, winner, is_seen}
use Rattle.picture_lines.specs.declared.registers.LineRegisters.{LineRegisters}
use Rattle.picture_lines.specs.declared.object_entry.Object.{Object}

shade_of-small : (palette colour : ℕ) → shade_of palette colour < 4
unfolding shade_of
shade_of-small palette colour = omega arith

if_small : (b : Bool) (m n : ℕ) → m < 4 → n < 4 → (if b then m else n) < 4
if_small true m n p q = p
if_small false m n p q = q

background_shade-small : (s : LineRegisters) (vram : List ℕ) (x : ℕ) → background_shade s vram x < 4
unfolding background_shade
background_shade-small s vram x = if_small (has_bit s.lcdc 0) _ _ (shade_of-small s.bgp (background_colour s vram x)) (omega arith)

object_shade-small : (s : LineRegisters) (vram : List ℕ) (x : ℕ) (o : Object) → object_shade s vram x o < 4
unfolding object_shade shade_over
object_shade-small s vram x o = if_small (has_bit o.attributes 7 && not (background_colour s vram x == 0)) _ _ (background_shade-small s vram x) (shade_of-small (object_palette s o) (object_colour s vram x o))

shade_under-small : (s : LineRegisters) (vram : List ℕ) (x : ℕ) (front : Option Object) → shade_under s vram x front < 4
unfolding shade_under
shade_under-small s vram x None = background_shade-small s vram x
shade_under-small s vram x (Some o) = object_shade-small s vram x o

pixel-small : (s : LineRegisters) (vram oam : List ℕ) (x : ℕ) → pixel s vram oam x < 4
unfolding pixel shade_at
pixel-small s vram oam x = shade_under-small s vram x (winner (filter (is_seen s vram x) (selected_objects s (objects_of oam))))

all_map : (f : ℕ → ℕ) (n : ℕ) → ((x : ℕ) → f x < 4) → All (λ shade. shade < 4) (map f (range_with_len 0 n))
all_map f n small k d h =
    let within : k < n = omega (arith, length-map-range_with_len {X = ℕ} f 0 n)
    in rw (get_or-map-range_with_len f 0 n k k d within (omega arith)) (small k)

pub drawn_row-small : (s : LineRegisters) (vram oam : List ℕ) → All (λ shade. shade < 4) (drawn_row s vram oam)
unfolding drawn_row
drawn_row-small s vram oam = all_map (pixel s vram oam) 160 (pixel-small s vram oam)
