-- Rows on which no object is that changes: they are drawn as before.
use Rattle.std.proofs.Common.{◌≡◌, ℕ, ◌+◌, ◌<◌, ◌≤◌, Bool, false, cond, List, [], ◌∷◌, ◌++◌, map, take, sym, ap, ◌∙◌, arith}
use Rattle.std.specs.Prelude.{if◌then◌else◌, nat_le, nat_lt}
use Rattle.std.specs.List.{filter, range_with_len}
use Rattle.std.proofs.lemmas.Bool.{and_left, and_right}
use Rattle.std.proofs.lemmas.List.FromFn.{filter_of_map_range_with_len_more}
use Rattle.picture_lines.specs.Bits.{has_bit}
use Rattle.picture_lines.specs.Pixel.{covers_line, object_height, object_at, objects_of, selected_objects, shade_at, pixel, drawn_row}
use Rattle.picture_lines.specs.declared.registers.LineRegisters.{LineRegisters}
use Rattle.picture_lines.specs.declared.object_entry.Object.{Object}
use Rattle.picture_lines.proofs.Objects.{height-small}

module _ (p : Object → Bool) (f g : ℕ → Object) (i : ℕ) (so_far : filter p (map f (range_with_len 0 i)) ≡ filter p (map g (range_with_len 0 i))) where
  -- the next object is the same
  pub found-same : f i ≡ g i → filter p (map f (range_with_len 0 (i + 1))) ≡ filter p (map g (range_with_len 0 (i + 1)))
  found-same same =
      filter_of_map_range_with_len_more p f 0 i i (omega arith)
      ∙ (ap (λ (found : List Object). found ++ cond (p (f i)) (f i ∷ []) []) so_far
      ∙ (ap (λ (o : Object). filter p (map g (range_with_len 0 i)) ++ cond (p o) (o ∷ []) []) same
      ∙ sym (filter_of_map_range_with_len_more p g 0 i i (omega arith))))

  -- neither of them is found
  pub found-neither : p (f i) ≡ false → p (g i) ≡ false → filter p (map f (range_with_len 0 (i + 1))) ≡ filter p (map g (range_with_len 0 (i + 1)))
  found-neither no_more none =
      filter_of_map_range_with_len_more p f 0 i i (omega arith)
      ∙ (ap (λ (b : Bool). filter p (map f (range_with_len 0 i)) ++ cond b (f i ∷ []) []) no_more
      ∙ (ap (λ (found : List Object). found ++ []) so_far
      ∙ (sym (ap (λ (b : Bool). filter p (map g (range_with_len 0 i)) ++ cond b (g i ∷ []) []) none)
      ∙ sym (filter_of_map_range_with_len_more p g 0 i i (omega arith)))))

-- a row on which the same objects are
pub drawn-same : (s : LineRegisters) (vram oam oam' : List ℕ) (n : ℕ) → n ≡ 40 → filter (covers_line s) (map (object_at oam) (range_with_len 0 n)) ≡ filter (covers_line s) (map (object_at oam') (range_with_len 0 n)) →
    drawn_row s vram oam ≡ drawn_row s vram oam'
unfolding drawn_row pixel selected_objects objects_of
drawn-same s vram oam oam' n all same =
    let found : filter (covers_line s) (map (object_at oam) (range_with_len 0 40)) ≡ filter (covers_line s) (map (object_at oam') (range_with_len 0 40)) = rw all at same in
    ap (λ (objects : List Object). map (λ x. shade_at s vram (if has_bit s.lcdc 1 then take 10 objects else []) x) (range_with_len 0 160)) found

module _ (s : LineRegisters) (o : Object) where
  pub above-object : s.ly + 16 < o.y → covers_line s o ≡ false
  unfolding covers_line
  above-object above =
      let a : nat_le o.y (s.ly + 16) ≡ false = grind arith in
      and_left _ _ a

  pub below-object : o.y + object_height s ≤ s.ly + 16 → covers_line s o ≡ false
  unfolding covers_line
  below-object below =
      let a : nat_lt (s.ly + 16) (o.y + object_height s) ≡ false = grind arith in
      and_right _ _ a

  pub far-below-object : o.y ≤ s.ly → covers_line s o ≡ false
  far-below-object below = let small = height-small s in below-object (omega (arith, small, below))
