-- The background of a line, by the tile rows that are put into it.
use Rattle.std.proofs.Common.{◌≡◌, ℕ, ◌+◌, ◌-◌, ◌%◌, ◌<◌, ◌≤◌, true, false, List, get_or, length, map, refl, sym, ap, ◌∙◌, arith, zero, suc}
use Rattle.std.specs.Prelude.{All, replicate, nat_le, ◌&&◌}
use Rattle.std.proofs.lemmas.List.{get_or-map}
use Rattle.std.proofs.lemmas.Simd.{length-replicate}
use Rattle.picture_lines.specs.Bits.{has_bit, shade_of}
use Rattle.picture_lines.specs.Pixel.{background_colour, background_shade, is_window_drawn, map_colour, map_start}
use Rattle.picture_lines.specs.Layers.{IsBackground}
use Rattle.picture_lines.specs.declared.registers.LineRegisters.{LineRegisters}

pub zeros-read : (n i : ℕ) (d : ℕ) → i < n → get_or (replicate n 0) i d ≡ 0
zeros-read zero i d h = absurd (omega arith)
zeros-read (suc n) zero d h = refl
zeros-read (suc n) (suc i) d h = let h' : i < n = omega arith in zeros-read n i d h'

pub zeros-small : (n : ℕ) → All (λ x. x < 4) (replicate n 0)
zeros-small n k d h = let h' : k < n = omega (arith, length-replicate {A = ℕ} n 0) in rw (zeros-read n k d h') (omega arith)

module _ (s : LineRegisters) (vram : List ℕ) (x : ℕ) where
  pub background_colour-off : has_bit s.lcdc 0 ≡ false → background_colour s vram x ≡ 0
  unfolding background_colour
  background_colour-off off = rw off

  pub background_colour-map : has_bit s.lcdc 0 ≡ true → (is_window_drawn s && nat_le s.wx (x + 7)) ≡ false → background_colour s vram x ≡ map_colour s.lcdc vram (map_start s.lcdc 3) ((s.scx + x) % 256) ((s.scy + s.ly) % 256)
  unfolding background_colour
  background_colour-map on outside = rw (on, outside)

  pub background_colour-window : has_bit s.lcdc 0 ≡ true → is_window_drawn s ≡ true → s.wx ≤ x + 7 → background_colour s vram x ≡ map_colour s.lcdc vram (map_start s.lcdc 6) (x + 7 - s.wx) s.window_counter
  unfolding background_colour
  background_colour-window on drawn within = let test : nat_le s.wx (x + 7) ≡ true = grind arith in rw (on, drawn, test)

  pub IsBackground-on : (colours : List ℕ) → x + 8 < length colours → has_bit s.lcdc 0 ≡ true → get_or colours (x + 8) 0 ≡ background_colour s vram x → IsBackground s vram colours (map (shade_of s.bgp) colours) x
  unfolding background_shade
  IsBackground-on colours within on right = record {
    colour = right;
    shade = rw (on, get_or-map (shade_of s.bgp) colours (x + 8) 0 0 within, right);
  }

  pub IsBackground-off : (colours : List ℕ) → has_bit s.lcdc 0 ≡ false → get_or colours (x + 8) 0 ≡ background_colour s vram x → IsBackground s vram colours colours x
  unfolding background_shade
  IsBackground-off colours off right = record {
    colour = right;
    shade = rw off (right ∙ background_colour-off off);
  }

-- the palette E4
own_shade : (colour : ℕ) → colour < 4 → shade_of 228 colour ≡ colour
unfolding shade_of
own_shade zero small = refl
own_shade (suc zero) small = refl
own_shade (suc (suc zero)) small = refl
own_shade (suc (suc (suc zero))) small = refl
own_shade (suc (suc (suc (suc n)))) small = absurd (omega arith)

pub background_shade-own : (s : LineRegisters) (vram : List ℕ) (x colour : ℕ) → colour < 4 → has_bit s.lcdc 0 ≡ true → s.bgp ≡ 228 → colour ≡ background_colour s vram x → colour ≡ background_shade s vram x
unfolding background_shade
background_shade-own s vram x colour small on own right =
    let same : shade_of 228 colour ≡ shade_of s.bgp (background_colour s vram x) = ap (shade_of 228) right ∙ ap (λ p. shade_of p (background_colour s vram x)) (sym own) in
    rw on (sym (own_shade colour small) ∙ same)

-- the columns and rows of the maps at which a column of the line stands
pub scrolled : (scroll x : ℕ) → (scroll - scroll % 8 + (x + 8 - (8 - scroll % 8))) % 256 ≡ (scroll + x) % 256
scrolled scroll x = omega arith

pub in_window : (left x : ℕ) → x < 160 → left ≤ x + 7 → (0 + (x + 8 - (left + 1))) % 256 ≡ x + 7 - left
in_window left x h within = omega arith
