-- Entries of a sector, one by one.
use Rattle.std.proofs.Common.{◌≡◌, ◌==◌, ◌&&◌, ◌%◌, ◌-◌, Some, None, inl, inr, ℕ, zero, suc, ◌+◌, ◌*◌, ◌≤◌, List, [], ◌∷◌, ◌++◌, length, take, drop, Bool, true, false, if◌then◌else◌, refl, sym, ap, ◌∙◌, arith}
use Rattle.std.proofs.lemmas.List.{drop-drop}
use Rattle.std.proofs.lemmas.Bool.{cases_Bool}
use Rattle.log_format.specs.Content.{is_valid_root, root_in, root_front, version_in}
use Rattle.input_entries.specs.Bytes.{begins_with, zeros}
use Rattle.log_format.specs.Log.{stored, width, entries_of_full_sector, count_in, is_log_sector, entries_from, entries_at}
use Rattle.log_format.specs.declared.root.Version.{Version}
use Rattle.log_format.specs.declared.root.Version.TheVariants.{One, Two}

pub few_fill : (version : Version) → entries_of_full_sector version ≤ 100
few_fill One = omega arith
few_fill Two = omega arith

pub length-entries_from : (version : Version) (n : ℕ) (bytes : List ℕ) → length (entries_from version n bytes) ≡ n
length-entries_from version zero bytes = refl
length-entries_from version (suc n) bytes = omega (arith, length-entries_from version n (drop (width version) bytes))

pub entries_more : (version : Version) (n : ℕ) (bytes : List ℕ) → entries_from version (n + 1) bytes ≡ entries_from version n bytes ++ stored version (take (width version) (drop (width version * n) bytes)) ∷ []
entries_more version zero bytes =
    let none : width version * 0 ≡ 0 = omega arith in
    ap (λ k. stored version (take (width version) (drop k bytes)) ∷ []) (sym none)
entries_more version (suc n) bytes =
    let next : suc n + 1 ≡ suc (n + 1) = omega arith in
    let w = width version in
    let at : w + w * n ≡ w * suc n = grind (arith) in
    ap (λ k. entries_from version k bytes) next
    ∙ ap (λ l. stored version (take w bytes) ∷ l) (entries_more version n (drop w bytes))
    ∙ ap (λ (l : List ℕ). stored version (take w bytes) ∷ (entries_from version n (drop w bytes) ++ stored version (take w l) ∷ [])) (drop-drop (w * n) w bytes ∙ ap (λ k. drop k bytes) at)

pub entries_by_count : (version : Version) (index count : ℕ) (sector : List ℕ) → count ≡ (if is_log_sector version index sector then count_in sector else 0) → entries_at version index sector ≡ entries_from version count (drop 8 sector)
entries_by_count version index count sector is = elim (cases_Bool (is_log_sector version index sector)) [
  | inl holds ↦
      ap (λ (t : Bool). if t then entries_from version (count_in sector) (drop 8 sector) else []) holds
      ∙ ap (λ n. entries_from version n (drop 8 sector)) (sym (is ∙ ap (λ (t : Bool). if t then count_in sector else 0) holds))
  | inr fails ↦
      ap (λ (t : Bool). if t then entries_from version (count_in sector) (drop 8 sector) else []) fails
      ∙ ap (λ n. entries_from version n (drop 8 sector)) (sym (is ∙ ap (λ (t : Bool). if t then count_in sector else 0) fails))
]

pub chunk_at : (sector : List ℕ) (w v i k : ℕ) → w ≡ v → k ≡ 8 + w * i + w - (8 + w * i) → take k (drop (8 + w * i) sector) ≡ take v (drop (v * i) (drop 8 sector))
chunk_at sector w v i k same wide =
    let size : k ≡ w = minus_here (8 + w * i) w k wide in
    ap (λ n. take n (drop (8 + w * i) sector)) (size ∙ same) ∙ ap (λ n. take v (drop (8 + n * i) sector)) same ∙ ap (take v) (sym (drop-drop (v * i) 8 sector))
  where
    minus_here : (a b k : ℕ) → k ≡ a + b - a → k ≡ b
    minus_here a b k is = omega (arith, is)

pub and_false : (a s : Bool) → (a && false && s) ≡ false
and_false true s = refl
and_false false s = refl

pub and_last : (a b : Bool) → (a && b && false) ≡ false
and_last true true = refl
and_last true false = refl
and_last false b = refl

-- one of the three tests fails
pub no_root : (slot : ℕ) (sector : List ℕ) → is_valid_root slot sector ≡ false → None ≡ (if is_valid_root slot sector then Some (root_in sector) else None)
no_root slot sector fails = sym (ap (λ (t : Bool). if t then Some (root_in sector) else None) fails)

pub is_valid : (slot : ℕ) (sector : List ℕ) → begins_with (root_front (version_in sector)) sector ≡ true → zeros (drop 64 sector) ≡ true → ((root_in sector).generation % 2 == slot) ≡ true
    → (if is_valid_root slot sector then Some (root_in sector) else None) ≡ Some (root_in sector)
is_valid slot sector magic blank parity = λ i. if magic i && blank i && parity i then Some (root_in sector) else None
