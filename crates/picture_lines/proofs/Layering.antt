-- One more object over a line.
use Rattle.std.proofs.Common.{◌≡◌, ◌≢◌, ℕ, ◌+◌, ◌<◌, ◌≤◌, true, false, List, [], ◌∷◌, get_or, set, length, refl, sym, ◌∙◌, ap, arith, ◌-◌, inl, inr}
use Rattle.std.specs.Prelude.{◌==◌, not, filter, nat_le, nat_lt, Option, None, Some, if◌then◌else◌}
use Rattle.std.proofs.lemmas.List.{get_or-set_same}
use Rattle.std.proofs.lemmas.Bool.{cases_lt}
use Rattle.picture_lines.specs.Bits.{has_bit, shade_of}
use Rattle.picture_lines.specs.Pixel.{background_shade, row_colour, object_row, shade_at, shade_under, winner, in_front, is_seen, object_colour, object_palette, object_shade, shade_over}
use Rattle.picture_lines.specs.Layers.{winner_x, IsLayered, IsBackground}
use Rattle.picture_lines.specs.declared.registers.LineRegisters.{LineRegisters}
use Rattle.picture_lines.specs.declared.object_entry.Object.{Object}

in_front-wins : (o : Object) (p : Option Object) → o.x ≤ winner_x p → in_front o p ≡ Some o
unfolding in_front winner_x
in_front-wins o None h = refl
in_front-wins o (Some q) h = let test : nat_le o.x q.x ≡ true = grind arith in rw test

in_front-loses : (o : Object) (p : Option Object) → winner_x p < o.x → o.x ≤ 255 → in_front o p ≡ p
unfolding in_front winner_x
in_front-loses o None h small = absurd (omega arith)
in_front-loses o (Some q) h small = let test : nat_le o.x q.x ≡ false = grind arith in rw test

not_zero : (n : ℕ) → n ≢ 0 → not (n == 0) ≡ true
not_zero n h = grind arith

module _ (s : LineRegisters) (vram : List ℕ) (x : ℕ) (o : Object) (rest : List Object) where
  filter-unseen : object_colour s vram x o ≡ 0 → filter (is_seen s vram x) (o ∷ rest) ≡ filter (is_seen s vram x) rest
  unfolding is_seen
  filter-unseen e = rw e

  filter-seen : object_colour s vram x o ≢ 0 → filter (is_seen s vram x) (o ∷ rest) ≡ o ∷ filter (is_seen s vram x) rest
  unfolding is_seen
  filter-seen h = let seen : not (object_colour s vram x o == 0) ≡ true = not_zero (object_colour s vram x o) h in rw seen

  module _ (shades fronts : List ℕ) (old : IsLayered s vram rest shades fronts x) where
    pub IsLayered-unseen : object_colour s vram x o ≡ 0 → IsLayered s vram (o ∷ rest) shades fronts x
    unfolding shade_at
    IsLayered-unseen e = record {
      shade = old.shade ∙ ap (λ l. shade_under s vram x (winner l)) (sym (filter-unseen e));
      front = old.front ∙ ap (λ l. winner_x (winner l)) (sym (filter-unseen e));
    }

    pub IsLayered-loses : object_colour s vram x o ≢ 0 → get_or fronts (x + 8) 0 < o.x → o.x ≤ 255 → IsLayered s vram (o ∷ rest) shades fronts x
    unfolding shade_at winner
    IsLayered-loses seen behind_it small =
        let front : winner (filter (is_seen s vram x) (o ∷ rest)) ≡ winner (filter (is_seen s vram x) rest) =
        rw (filter-seen seen, in_front-loses o (winner (filter (is_seen s vram x) rest)) (rw (← old.front) behind_it) small)
        in record {
          shade = old.shade ∙ ap (shade_under s vram x) (sym front);
          front = old.front ∙ ap winner_x (sym front);
        }

    pub IsLayered-wins : (shades' fronts' : List ℕ) → object_colour s vram x o ≢ 0 → o.x ≤ get_or fronts (x + 8) 0 → get_or shades' (x + 8) 0 ≡ object_shade s vram x o → get_or fronts' (x + 8) 0 ≡ o.x → IsLayered s vram (o ∷ rest) shades' fronts' x
    unfolding shade_at winner shade_under winner_x
    IsLayered-wins shades' fronts' seen before shade front =
        let chosen : winner (filter (is_seen s vram x) (o ∷ rest)) ≡ Some o =
        rw (filter-seen seen, in_front-wins o (winner (filter (is_seen s vram x) rest)) (rw (← old.front) before))
        in record {
          shade = shade ∙ ap (shade_under s vram x) (sym chosen);
          front = front ∙ ap winner_x (sym chosen);
        }

pub IsLayered-same : (s : LineRegisters) (vram : List ℕ) (x : ℕ) (objects : List Object) (shades fronts shades' fronts' : List ℕ) → get_or shades' (x + 8) 0 ≡ get_or shades (x + 8) 0 → get_or fronts' (x + 8) 0 ≡ get_or fronts (x + 8) 0 → IsLayered s vram objects shades fronts x → IsLayered s vram objects shades' fronts' x
IsLayered-same s vram x objects shades fronts shades' fronts' same_shade same_front old = record {
  shade = same_shade ∙ old.shade;
  front = same_front ∙ old.front;
}

-- the two bytes that an object's colour writes at its column
pub IsLayered-put : (s : LineRegisters) (vram : List ℕ) (x : ℕ) (o : Object) (rest : List Object) (colours under shades fronts : List ℕ) (at colour shade : ℕ) → at ≡ x + 8 → at < length shades → at < length fronts → colour ≡ object_colour s vram x o → shade ≡ shade_of (object_palette s o) colour → colour ≢ 0 → o.x ≤ get_or fronts at 0 → IsBackground s vram colours under x → IsLayered s vram rest shades fronts x → IsLayered s vram (o ∷ rest) (set shades at (shade_over o shade (get_or colours at 0) (get_or under at 0))) (set fronts at o.x) x
unfolding object_shade
IsLayered-put s vram x o rest colours under shades fronts at colour shade place in_shades in_fronts is mapped seen before ground old =
    let seen' : object_colour s vram x o ≢ 0 = λ e. seen (is ∙ e)
    in let before' : o.x ≤ get_or fronts (x + 8) 0 = rw (← place) before
    in let written : get_or (set shades at (shade_over o shade (get_or colours at 0) (get_or under at 0))) (x + 8) 0 ≡ object_shade s vram x o =
    rw (← place, get_or-set_same shades at (shade_over o shade (get_or colours at 0) (get_or under at 0)) 0 in_shades, place, mapped, is, ground.colour, ground.shade)
    in let front : get_or (set fronts at o.x) (x + 8) 0 ≡ o.x = rw (← place, get_or-set_same fronts at o.x 0 in_fronts)
    in IsLayered-wins s vram x o rest shades fronts old (set shades at (shade_over o shade (get_or colours at 0) (get_or under at 0))) (set fronts at o.x) seen' before' written front

-- one more of the eight columns of an object, of which the first has index `start`
module _ (s : LineRegisters) (vram : List ℕ) (all rest : List Object) (shades fronts shades' fronts' : List ℕ) (start across : ℕ)
    (same_shades : (i : ℕ) → (i ≡ start + across → ⊥) → get_or shades' i 0 ≡ get_or shades i 0)
    (same_fronts : (i : ℕ) → (i ≡ start + across → ⊥) → get_or fronts' i 0 ≡ get_or fronts i 0) where
  pub layered-put : ((x : ℕ) → x < 160 → x + 8 < start + across → IsLayered s vram all shades fronts x) → ((x : ℕ) → x < 160 → start + across ≡ x + 8 → IsLayered s vram all shades' fronts' x) → (x : ℕ) → x < 160 → x + 8 < start + (across + 1) → IsLayered s vram all shades' fronts' x
  layered-put put here x h below = elim (cases_lt (x + 8) (start + across)) [
    | inl before ↦ let other : x + 8 ≡ start + across → ⊥ = λ e. omega (arith, e) in IsLayered-same s vram x all shades fronts shades' fronts' (same_shades (x + 8) other) (same_fronts (x + 8) other) (put x h before)
    | inr at ↦ here x h (omega arith)
  ]

  pub layered-left : ((x : ℕ) → x < 160 → start + across ≤ x + 8 → IsLayered s vram rest shades fronts x) → (x : ℕ) → x < 160 → start + (across + 1) ≤ x + 8 → IsLayered s vram rest shades' fronts' x
  layered-left left x h above =
      let other : x + 8 ≡ start + across → ⊥ = λ e. omega (arith, e)
      in IsLayered-same s vram x rest shades fronts shades' fronts' (same_shades (x + 8) other) (same_fronts (x + 8) other) (left x h (omega arith))

pub object_colour-left : (s : LineRegisters) (vram : List ℕ) (x : ℕ) (o : Object) → x + 8 < o.x → object_colour s vram x o ≡ 0
unfolding object_colour
object_colour-left s vram x o h = let test : nat_le o.x (x + 8) ≡ false = grind arith in rw test

pub object_colour-right : (s : LineRegisters) (vram : List ℕ) (x : ℕ) (o : Object) → o.x + 8 ≤ x + 8 → object_colour s vram x o ≡ 0
unfolding object_colour
object_colour-right s vram x o h =
    let reached : nat_le o.x (x + 8) ≡ true = grind arith
    in let test : nat_lt (x + 8) (o.x + 8) ≡ false = grind arith
    in rw (reached, test)

pub object_colour-at : (s : LineRegisters) (vram : List ℕ) (x : ℕ) (o : Object) (across : ℕ) → across < 8 → o.x + across ≡ x + 8 → object_colour s vram x o ≡ row_colour vram (object_row s o) (if has_bit o.attributes 5 then 7 - across else across)
unfolding object_colour
object_colour-at s vram x o across within place =
    let reached : nat_le o.x (x + 8) ≡ true = grind arith
    in let test : nat_lt (x + 8) (o.x + 8) ≡ true = grind arith
    in let column : x + 8 - o.x ≡ across = omega arith
    in rw (reached, test, column)

pub IsLayered-none : (s : LineRegisters) (vram colours shades fronts : List ℕ) (x : ℕ) → get_or fronts (x + 8) 0 ≡ 255 → IsBackground s vram colours shades x → IsLayered s vram [] shades fronts x
unfolding shade_at shade_under winner winner_x
IsLayered-none s vram colours shades fronts x front ground = record { shade = ground.shade; front = front }

pub shade_at-none : (s : LineRegisters) (vram : List ℕ) (x : ℕ) → shade_at s vram [] x ≡ background_shade s vram x
unfolding shade_at shade_under winner
shade_at-none s vram x = refl
