-- The objects that are selected for a line, as a loop over OAM finds them.
use Rattle.std.proofs.Common.{◌≡◌, ℕ, ◌+◌, ◌<◌, ◌≤◌, Bool, true, false, cond, List, [], ◌∷◌, ◌++◌, length, take, map, subst, refl, ap, arith, rules, length-append}
use Rattle.std.specs.List.{filter, range_with_len, AllPass}
use Rattle.std.specs.Prelude.{if◌then◌else◌, nat_le, nat_lt}
use Rattle.std.proofs.lemmas.List.{length-take, take_all, take-append-le, append-nil}
use Rattle.std.proofs.lemmas.List.FromFn.{filter_of_map_range_with_len_more}
use Rattle.std.proofs.lemmas.List.Elements.{filter_passes, All-take}
use Rattle.picture_lines.specs.Pixel.{selected_objects, object_height, covers_line, object_at, objects_of}
use Rattle.picture_lines.specs.Bits.{has_bit}
use Rattle.picture_lines.specs.declared.registers.LineRegisters.{LineRegisters}
use Rattle.picture_lines.specs.declared.object_entry.Object.{Object}

-- one more, where there is room
pub take_push-room : {X : Type 0} (n : ℕ) (xs : List X) (x : X) → length (take n xs) < n → take n (xs ++ x ∷ []) ≡ take n xs ++ x ∷ []
take_push-room n xs x room =
    let short : length xs < n = omega (arith, length-take n xs)
    in let whole : length (xs ++ x ∷ []) ≤ n = omega (arith, length-append xs (x ∷ []))
    in rw (take_all n (xs ++ x ∷ []) whole, take_all n xs (omega arith))

pub take_push-full : {X : Type 0} (n : ℕ) (xs : List X) (x : X) → n ≤ length (take n xs) → take n (xs ++ x ∷ []) ≡ take n xs
take_push-full n xs x full = take-append-le n xs (x ∷ []) (omega (arith, length-take n xs))

module _ {X : Type 0} (p : X → Bool) (f : ℕ → X) (n i : ℕ) (selected : List X) (so_far : selected ≡ take n (filter p (map f (range_with_len 0 i)))) where
  selected-more : (b : Bool) → p (f i) ≡ b → take n (filter p (map f (range_with_len 0 (i + 1)))) ≡ take n (filter p (map f (range_with_len 0 i)) ++ cond b (f i ∷ []) [])
  selected-more b e = rw (filter_of_map_range_with_len_more p f 0 i i (omega arith), e)

  pub selected-push : p (f i) ≡ true → length selected < n → selected ++ f i ∷ [] ≡ take n (filter p (map f (range_with_len 0 (i + 1))))
  selected-push e room =
      let fits : length (take n (filter p (map f (range_with_len 0 i)))) < n = rw (← so_far) room
      in rw (selected-more true e, take_push-room n (filter p (map f (range_with_len 0 i))) (f i) fits, so_far)

  pub selected-full : p (f i) ≡ true → n ≤ length selected → selected ≡ take n (filter p (map f (range_with_len 0 (i + 1))))
  selected-full e full =
      let fills : n ≤ length (take n (filter p (map f (range_with_len 0 i)))) = rw (← so_far) full
      in rw (selected-more true e, take_push-full n (filter p (map f (range_with_len 0 i))) (f i) fills) so_far

  pub selected-pass : p (f i) ≡ false → selected ≡ take n (filter p (map f (range_with_len 0 (i + 1))))
  selected-pass e = rw (selected-more false e, append-nil) so_far

if_covered : (s : LineRegisters) (all : List Object) (b : Bool) → AllPass (covers_line s) (if b then take 10 (filter (covers_line s) all) else [])
if_covered s all true = All-take (λ o. covers_line s o ≡ true) 10 (filter (covers_line s) all) (filter_passes (covers_line s) all)
if_covered s all false = search rules

pub selected_objects-covered : (s : LineRegisters) (all : List Object) → AllPass (covers_line s) (selected_objects s all)
unfolding selected_objects
selected_objects-covered s all = if_covered s all (has_bit s.lcdc 1)

-- the list that a loop over all of OAM found is that of the selected objects
pub selected_objects-found : (s : LineRegisters) (oam : List ℕ) (selected : List Object) (n : ℕ) → has_bit s.lcdc 1 ≡ true → n ≡ 40 → selected ≡ take 10 (filter (covers_line s) (map (object_at oam) (range_with_len 0 n))) → selected ≡ selected_objects s (objects_of oam)
unfolding selected_objects objects_of
selected_objects-found s oam selected n on all found =
    let P : ℕ → Type 0 = λ m. selected ≡ take 10 (filter (covers_line s) (map (object_at oam) (range_with_len 0 m)))
    in rw on (subst P all found)

pub selected_objects_when_off : (s : LineRegisters) (all : List Object) → has_bit s.lcdc 1 ≡ false → [] ≡ selected_objects s all
unfolding selected_objects
selected_objects_when_off s all off = rw off

-- lines of the same height that an object covers as it covers another
module _ (s t : LineRegisters) (o : Object) (same : has_bit s.lcdc 2 ≡ has_bit t.lcdc 2) where
  same_height : object_height s ≡ object_height t
  unfolding object_height
  same_height = ap (λ b. if b then 16 else 8) same

  pub covers-above : t.ly + 16 < o.y → s.ly + 16 < o.y → covers_line s o ≡ covers_line t o
  unfolding covers_line
  covers-above in_t in_s =
      let a : nat_le o.y (s.ly + 16) ≡ false = grind arith
      in let b : nat_le o.y (t.ly + 16) ≡ false = grind arith
      in rw (a, b) refl

  pub covers-within : o.y ≤ t.ly + 16 → t.ly ≤ s.ly → s.ly + 16 < o.y + object_height t → covers_line s o ≡ covers_line t o
  unfolding covers_line
  covers-within from later to =
      let a : nat_le o.y (s.ly + 16) ≡ true = grind arith
      in let b : nat_le o.y (t.ly + 16) ≡ true = grind arith
      in let c : nat_lt (s.ly + 16) (o.y + object_height t) ≡ true = grind arith
      in let d : nat_lt (t.ly + 16) (o.y + object_height t) ≡ true = grind arith
      in rw (same_height, a, b, c, d) refl

  pub covers-below : o.y + object_height t ≤ t.ly + 16 → t.ly ≤ s.ly → covers_line s o ≡ covers_line t o
  unfolding covers_line
  covers-below over later =
      let a : nat_le o.y (s.ly + 16) ≡ true = grind arith
      in let b : nat_le o.y (t.ly + 16) ≡ true = grind arith
      in let c : nat_lt (s.ly + 16) (o.y + object_height t) ≡ false = grind arith
      in let d : nat_lt (t.ly + 16) (o.y + object_height t) ≡ false = grind arith
      in rw (same_height, a, b, c, d) refl

if_height : (b : Bool) → (if b then 16 else 8) ≤ 16
if_height true = omega arith
if_height false = omega arith

pub height-small : (s : LineRegisters) → object_height s ≤ 16
unfolding object_height
height-small s = if_height (has_bit s.lcdc 2)

pub selected_objects_when_on : (s : LineRegisters) (all : List Object) → has_bit s.lcdc 1 ≡ true → take 10 (filter (covers_line s) all) ≡ selected_objects s all
unfolding selected_objects
selected_objects_when_on s all on = rw on refl

pub chosen_found : (s : LineRegisters) (oam : List ℕ) (selected : List Object) (n : ℕ) → n ≡ 40 → selected ≡ take 10 (filter (covers_line s) (map (object_at oam) (range_with_len 0 n))) → selected ≡ take 10 (filter (covers_line s) (objects_of oam))
unfolding objects_of
chosen_found s oam selected n all found =
    let P : ℕ → Type 0 = λ m. selected ≡ take 10 (filter (covers_line s) (map (object_at oam) (range_with_len 0 m)))
    in subst P all found
