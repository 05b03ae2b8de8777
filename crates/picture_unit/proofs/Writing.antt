-- The text of a row, value by value, and that of the rows.
use Rattle.std.proofs.Common.{◌≡◌, Bool, false, bit_xor, ℕ, ◌+◌, ◌<◌, ◌≤◌, ◌*◌, ◌-◌, ◌%◌, List, [], ◌∷◌, ◌++◌, length, take, drop, get_or, refl, sym, ◌∙◌, ap, arith, map, append_assoc, zero, suc, inl, inr}
use Rattle.std.specs.Prelude.{◌==◌, All, if◌then◌else◌}
use Rattle.std.specs.List.{flat_map}
use Rattle.std.proofs.Math.Seq.{take-add}
use Rattle.std.proofs.lemmas.Bool.{cases_Bool}
use Rattle.std.proofs.lemmas.Bool.Decides.{nat_tests}
use Rattle.std.proofs.lemmas.List.{ext_get_or, get_or-map, get_or-take, get_or-drop, take-append-drop, length-map, length-take-le, length-drop}
use Rattle.std.proofs.lemmas.List.Folds.{flat_map-map}
use Rattle.std.proofs.lemmas.Grind.{flat_map-append}
use Rattle.picture_unit.specs.Pgm.{values_text}

pub length-values_text : (x : ℕ) (row : List ℕ) → length (values_text x row) ≡ 2 * length row
unfolding values_text
length-values_text x [] = refl
length-values_text x (shade ∷ rest) =
    let rest' : length (values_text (x + 1) rest) ≡ 2 * length rest = length-values_text (x + 1) rest
    in omega arith

-- the text of some columns and of those after them
pub values_text-append : (x next : ℕ) (row more : List ℕ) → next ≡ x + length row → values_text x row ++ values_text next more ≡ values_text x (row ++ more)
unfolding values_text
values_text-append x next [] more is =
    let here : next ≡ x = omega arith
    in ap (λ (n : ℕ). values_text n more) here
values_text-append x next (shade ∷ rest) more is =
    ap (λ (l : List ℕ). (48 + (3 - shade)) ∷ (if x % 32 == 31 then 10 else 32) ∷ l) (values_text-append (x + 1) next rest more (omega arith))

-- 3 less a shade, as a digit: the two low bits of the digit 3 are set
turned : (shade : ℕ) → shade < 4 → bit_xor shade 51 ≡ 48 + (3 - shade)
turned zero small = refl
turned (suc zero) small = refl
turned (suc (suc zero)) small = refl
turned (suc (suc (suc zero))) small = refl
turned (suc (suc (suc (suc n)))) small = absurd (omega arith)

within_line : (x at k : ℕ) → x % 8 ≡ 0 → k < 7 → at ≡ x + k → ◌≡◌ {A = ℕ} (if at % 32 == 31 then 10 else 32) 32
within_line x at k eighth before is = let other : (at % 32 == 31) ≡ false = grind (arith, nat_tests) in rw other refl

ends_line : (x at last : ℕ) → x % 8 ≡ 0 → at ≡ x + 7 → last ≡ (if x % 32 == 24 then 10 else 32) → bit_xor 0 last ≡ (if at % 32 == 31 then 10 else 32)
ends_line x at last eighth is last_is =
    let same : (at % 32 == 31) ≡ (x % 32 == 24) = grind (arith, nat_tests) in
    elim (cases_Bool (x % 32 == 24)) [
      | inl is_end ↦ ap (λ (n : ℕ). bit_xor 0 n) (last_is ∙ ap (λ (b : Bool). if b then 10 else 32) is_end) ∙ sym (ap (λ (b : Bool). if b then 10 else 32) (same ∙ is_end))
      | inr is_none ↦ ap (λ (n : ℕ). bit_xor 0 n) (last_is ∙ ap (λ (b : Bool). if b then 10 else 32) is_none) ∙ sym (ap (λ (b : Bool). if b then 10 else 32) (same ∙ is_none))
    ]

pair : (a b s t : ℕ) (l r : List ℕ) → a ≡ b → s ≡ t → l ≡ r → a ∷ s ∷ l ≡ b ∷ t ∷ r
pair a b s t l r first second rest = cc

-- eight shades with zeros between them, turned into text
abbrev pub turned_apart : (last : ℕ) → List ℕ → List ℕ
turned_apart last xs =
    bit_xor (get_or (xs ++ 0 ∷ 0 ∷ 0 ∷ 0 ∷ 0 ∷ 0 ∷ 0 ∷ 0 ∷ []) 0 0) 51 ∷ bit_xor (get_or (xs ++ 0 ∷ 0 ∷ 0 ∷ 0 ∷ 0 ∷ 0 ∷ 0 ∷ 0 ∷ []) 8 0) 32 ∷ bit_xor (get_or (xs ++ 0 ∷ 0 ∷ 0 ∷ 0 ∷ 0 ∷ 0 ∷ 0 ∷ 0 ∷ []) 1 0) 51 ∷ bit_xor (get_or (xs ++ 0 ∷ 0 ∷ 0 ∷ 0 ∷ 0 ∷ 0 ∷ 0 ∷ 0 ∷ []) 9 0) 32 ∷ bit_xor (get_or (xs ++ 0 ∷ 0 ∷ 0 ∷ 0 ∷ 0 ∷ 0 ∷ 0 ∷ 0 ∷ []) 2 0) 51 ∷ bit_xor (get_or (xs ++ 0 ∷ 0 ∷ 0 ∷ 0 ∷ 0 ∷ 0 ∷ 0 ∷ 0 ∷ []) 10 0) 32 ∷ bit_xor (get_or (xs ++ 0 ∷ 0 ∷ 0 ∷ 0 ∷ 0 ∷ 0 ∷ 0 ∷ 0 ∷ []) 3 0) 51 ∷ bit_xor (get_or (xs ++ 0 ∷ 0 ∷ 0 ∷ 0 ∷ 0 ∷ 0 ∷ 0 ∷ 0 ∷ []) 11 0) 32 ∷ bit_xor (get_or (xs ++ 0 ∷ 0 ∷ 0 ∷ 0 ∷ 0 ∷ 0 ∷ 0 ∷ 0 ∷ []) 4 0) 51 ∷ bit_xor (get_or (xs ++ 0 ∷ 0 ∷ 0 ∷ 0 ∷ 0 ∷ 0 ∷ 0 ∷ 0 ∷ []) 12 0) 32 ∷ bit_xor (get_or (xs ++ 0 ∷ 0 ∷ 0 ∷ 0 ∷ 0 ∷ 0 ∷ 0 ∷ 0 ∷ []) 5 0) 51 ∷ bit_xor (get_or (xs ++ 0 ∷ 0 ∷ 0 ∷ 0 ∷ 0 ∷ 0 ∷ 0 ∷ 0 ∷ []) 13 0) 32 ∷ bit_xor (get_or (xs ++ 0 ∷ 0 ∷ 0 ∷ 0 ∷ 0 ∷ 0 ∷ 0 ∷ 0 ∷ []) 6 0) 51 ∷ bit_xor (get_or (xs ++ 0 ∷ 0 ∷ 0 ∷ 0 ∷ 0 ∷ 0 ∷ 0 ∷ 0 ∷ []) 14 0) 32 ∷ bit_xor (get_or (xs ++ 0 ∷ 0 ∷ 0 ∷ 0 ∷ 0 ∷ 0 ∷ 0 ∷ 0 ∷ []) 7 0) 51 ∷ bit_xor (get_or (xs ++ 0 ∷ 0 ∷ 0 ∷ 0 ∷ 0 ∷ 0 ∷ 0 ∷ 0 ∷ []) 15 0) last ∷ []

pub eight-written : (x last : ℕ) (xs : List ℕ) → length xs ≡ 8 → x % 8 ≡ 0 → All (λ shade. shade < 4) xs → last ≡ (if x % 32 == 24 then 10 else 32) → turned_apart last xs ≡ values_text x xs
unfolding values_text
eight-written x last [] long eighth small last_is = absurd (omega arith)
eight-written x last (a ∷ []) long eighth small last_is = absurd (omega arith)
eight-written x last (a ∷ b ∷ []) long eighth small last_is = absurd (omega arith)
eight-written x last (a ∷ b ∷ c ∷ []) long eighth small last_is = absurd (omega arith)
eight-written x last (a ∷ b ∷ c ∷ d ∷ []) long eighth small last_is = absurd (omega arith)
eight-written x last (a ∷ b ∷ c ∷ d ∷ e ∷ []) long eighth small last_is = absurd (omega arith)
eight-written x last (a ∷ b ∷ c ∷ d ∷ e ∷ f ∷ []) long eighth small last_is = absurd (omega arith)
eight-written x last (a ∷ b ∷ c ∷ d ∷ e ∷ f ∷ g ∷ []) long eighth small last_is = absurd (omega arith)
eight-written x last (a ∷ b ∷ c ∷ d ∷ e ∷ f ∷ g ∷ h ∷ more ∷ rest) long eighth small last_is = absurd (omega arith)
eight-written x last (a ∷ b ∷ c ∷ d ∷ e ∷ f ∷ g ∷ h ∷ []) long eighth small last_is =
    pair _ _ _ _ _ _ (turned a (small 0 0 (omega arith))) (sym (within_line x _ 0 eighth (omega arith) (omega arith))) (pair _ _ _ _ _ _ (turned b (small 1 0 (omega arith))) (sym (within_line x _ 1 eighth (omega arith) (omega arith))) (pair _ _ _ _ _ _ (turned c (small 2 0 (omega arith))) (sym (within_line x _ 2 eighth (omega arith) (omega arith))) (pair _ _ _ _ _ _ (turned d (small 3 0 (omega arith))) (sym (within_line x _ 3 eighth (omega arith) (omega arith))) (pair _ _ _ _ _ _ (turned e (small 4 0 (omega arith))) (sym (within_line x _ 4 eighth (omega arith) (omega arith))) (pair _ _ _ _ _ _ (turned f (small 5 0 (omega arith))) (sym (within_line x _ 5 eighth (omega arith) (omega arith))) (pair _ _ _ _ _ _ (turned g (small 6 0 (omega arith))) (sym (within_line x _ 6 eighth (omega arith) (omega arith))) (pair _ _ _ _ _ _ (turned h (small 7 0 (omega arith))) (ends_line x _ last eighth (omega arith) last_is) refl)))))))

-- texts that are each that of a row
pub texts-written : (f : List ℕ → List ℕ) (texts rows : List (List ℕ)) (first count : ℕ) → length texts ≡ count → first + count ≤ length rows → ((i : ℕ) → i < count → get_or texts i [] ≡ f (get_or rows (first + i) [])) → texts ≡ map f (take count (drop first rows))
texts-written f texts rows first count size within written =
    let room : count ≤ length (drop first rows) = rw length-drop (omega arith)
    in let size' : length (take count (drop first rows)) ≡ count = length-take-le count (drop first rows) room
    in ext_get_or [] texts (map f (take count (drop first rows))) (size ∙ sym (length-map (take count (drop first rows)) f ∙ size')) (λ i below.
    let here : i < count = omega arith in
    written i here ∙ sym (get_or-map f (take count (drop first rows)) i [] [] (omega arith) ∙ ap f (get_or-take count (drop first rows) i [] here ∙ get_or-drop first rows i [])))

-- the text of the rows before one, and of so many more
pub texts-more : (f : List ℕ → List ℕ) (rows : List (List ℕ)) (first count : ℕ) → flat_map f (take first rows) ++ flat_map (λ text. text) (map f (take count (drop first rows))) ≡ flat_map f (take (first + count) rows)
texts-more f rows first count =
    ap (λ l. flat_map f (take first rows) ++ l) (flat_map-map (λ text. text) f (take count (drop first rows)))
    ∙ (sym (flat_map-append f (take first rows) (take count (drop first rows))) ∙ ap (flat_map f) (sym (take-add first count rows)))

-- the rows before one, so many, and the rows after them
pub texts-split : (f : List ℕ → List ℕ) (rows : List (List ℕ)) (first count : ℕ) → flat_map f rows ≡ flat_map f (take first rows) ++ (flat_map (λ text. text) (map f (take count (drop first rows))) ++ flat_map f (drop (first + count) rows))
texts-split f rows first count =
    ap (flat_map f) (sym (take-append-drop (first + count) rows))
    ∙ (flat_map-append f (take (first + count) rows) (drop (first + count) rows)
    ∙ (ap (λ l. l ++ flat_map f (drop (first + count) rows)) (sym (texts-more f rows first count))
    ∙ append_assoc (flat_map f (take first rows)) (flat_map (λ text. text) (map f (take count (drop first rows)))) (flat_map f (drop (first + count) rows))))
