-- Entries have six bytes, and what holds of each by its index.
use Rattle.std.proofs.Common.{◌≡◌, ◌==◌, inl, inr, ℕ, zero, suc, ◌+◌, ◌-◌, ◌*◌, ◌<◌, ◌≤◌, List, [], ◌∷◌, ◌++◌, length, take, drop, get_or, Bool, true, if◌then◌else◌, refl, sym, ap, ◌∙◌, arith, append_assoc, length-append}
use Rattle.std.proofs.lemmas.Bool.{cases_Bool}
use Rattle.std.proofs.lemmas.List.{take_at, drop_at, take_more, append-nil, drop-replicate}
use Rattle.std.proofs.lemmas.List.Concat.{flat_map-append}
use Rattle.std.specs.List.{flat_map}
use lib.ListN.{replicate}
use borrow.Rule.Slice.PartMut.{put_mid}
use Rattle.std.specs.Int.{w32, to_le_bytes}
use Rattle.input_entries.specs.Bytes.{byte}
use Rattle.input_entries.specs.Inputs.{is_entry, all_entries, single, longer}
use Rattle.input_entries.specs.declared.Entry.{Entry}
use Rattle.input_entries.specs.declared.StoredEntry.{StoredEntry}

-- each entry has six bytes
abbrev pub AreCodes : List StoredEntry → Type 0
AreCodes [] = Unit {0}
AreCodes (e ∷ es) = (length e.code ≡ 6) × AreCodes es

pub codes-take : (n : ℕ) (es : List StoredEntry) → AreCodes es → AreCodes (take n es)
codes-take zero es are = tt
codes-take (suc n) [] are = tt
codes-take (suc n) (e ∷ es) are = (are.0, codes-take n es are.1)

pub codes-drop : (n : ℕ) (es : List StoredEntry) → AreCodes es → AreCodes (drop n es)
codes-drop zero es are = are
codes-drop (suc n) [] are = tt
codes-drop (suc n) (e ∷ es) are = codes-drop n es are.1

pub codes-append : (xs ys : List StoredEntry) → AreCodes xs → AreCodes ys → AreCodes (xs ++ ys)
codes-append [] ys a b = b
codes-append (x ∷ xs) ys a b = (a.0, codes-append xs ys a.1 b)

-- the same by index
pub codes_of_each : (es : List StoredEntry) → ((k : ℕ) → k < length es → length (get_or es k (record { code = [] })).code ≡ 6) → AreCodes es
codes_of_each [] each = tt
codes_of_each (e ∷ es) each = (each 0 (omega arith), codes_of_each es (λ k le. each (suc k) (omega arith)))

pub each_of_codes : (es : List StoredEntry) → AreCodes es → (k : ℕ) → k < length es → length (get_or es k (record { code = [] })).code ≡ 6
each_of_codes [] codes k le = absurd (omega arith)
each_of_codes (e ∷ es) codes zero le = codes.0
each_of_codes (e ∷ es) codes (suc k) le = each_of_codes es codes.1 k (omega arith)

pub entries_of_each : (es : List StoredEntry) → ((k : ℕ) → k < length es → is_entry (get_or es k (record { code = [] })) ≡ true) → all_entries es
entries_of_each [] each = tt
entries_of_each (e ∷ es) each = (each 0 (omega arith), entries_of_each es (λ k le. each (suc k) (omega arith)))

pub each_of_entries : (es : List StoredEntry) → all_entries es → (k : ℕ) → k < length es → is_entry (get_or es k (record { code = [] })) ≡ true
each_of_entries [] are k le = absurd (omega arith)
each_of_entries (e ∷ es) are zero le = are.0
each_of_entries (e ∷ es) are (suc k) le = each_of_entries es are.1 k (omega arith)

abbrev pub codes_of : List StoredEntry → List ℕ
codes_of es = flat_map (λ (x : StoredEntry). x.code) es

pub code_single : (e : Entry) → length e.code ≡ 5 → length (single e).code ≡ 6
unfolding single
code_single e size = elim (cases_Bool (byte 0 e.code == 0)) [
  | inl holds ↦ ap (λ (t : Bool). length (if t then 0 ∷ byte 1 e.code ∷ to_le_bytes w32 1 else e.code ++ 0 ∷ [])) holds
  | inr fails ↦ ap (λ (t : Bool). length (if t then 0 ∷ byte 1 e.code ∷ to_le_bytes w32 1 else e.code ++ 0 ∷ [])) fails ∙ omega (arith, length-append e.code (0 ∷ []), size)
]

pub code_longer : (s : StoredEntry) → length (longer s).code ≡ 6
unfolding longer
code_longer s = refl

-- the first of some codes, and the others
pub codes_read : (e : StoredEntry) (es : List StoredEntry) (rest : List ℕ) → length e.code ≡ 6 → (take 6 (codes_of (e ∷ es) ++ rest) ≡ e.code) × (drop 6 (codes_of (e ∷ es) ++ rest) ≡ codes_of es ++ rest)
codes_read e es rest six =
    let front : (e.code ++ codes_of es) ++ rest ≡ e.code ++ (codes_of es ++ rest) = append_assoc e.code (codes_of es) rest in
    (ap (take 6) front ∙ take_at e.code (codes_of es ++ rest) 6 six, ap (drop 6) front ∙ drop_at e.code (codes_of es ++ rest) 6 six)

-- one code more is put behind these bytes and the codes so far, over zeros
pub code_put : (h : List ℕ) (es : List StoredEntry) (at room i k : ℕ) (sector put : List ℕ) → length h ≡ at → 6 * i + 6 ≤ room → k ≡ 6 → i < length es
    → length (get_or es i (record { code = [] })).code ≡ 6 → put ≡ (get_or es i (record { code = [] })).code
    → sector ≡ h ++ codes_of (take i es) ++ replicate (room - 6 * i) 0 → length (codes_of (take i es)) ≡ 6 * i
    → (put_mid (at + 6 * i) k sector put ≡ h ++ codes_of (take (i + 1) es) ++ replicate (room - 6 * (i + 1)) 0) × (length (codes_of (take (i + 1) es)) ≡ 6 * (i + 1))
code_put h es at room i k sector put front fits wide less six is so_far size =
    let code = (get_or es i (record { code = [] })).code in
    let done : List ℕ = h ++ codes_of (take i es) in
    let z : List ℕ = replicate (room - 6 * i) 0 in
    let codes : codes_of (take (i + 1) es) ≡ codes_of (take i es) ++ code =
    ap codes_of (take_more es i (record { code = [] }) less) ∙ flat_map-append (λ (x : StoredEntry). x.code) (take i es) (get_or es i (record { code = [] }) ∷ []) ∙ ap (λ (l : List ℕ). codes_of (take i es) ++ l) (append-nil code) in
    let long : length done ≡ at + 6 * i = omega (arith, length-append h (codes_of (take i es)), front, size) in
    let left : room - 6 * i - k ≡ room - 6 * (i + 1) = omega arith in
    let back : drop k (drop (at + 6 * i) (done ++ z)) ≡ replicate (room - 6 * (i + 1)) 0 = ap (drop k) (drop_at done z (at + 6 * i) long) ∙ drop-replicate k (room - 6 * i) 0 ∙ ap (λ n. replicate n 0) left in (
      (λ j. put_mid (at + 6 * i) k (so_far j) (is j)) ∙ (λ j. take_at done z (at + 6 * i) long j ++ (code ++ back j)) ∙ sym (append_assoc done code (replicate (room - 6 * (i + 1)) 0))
          ∙ ap (λ (l : List ℕ). l ++ replicate (room - 6 * (i + 1)) 0) (append_assoc h (codes_of (take i es)) code ∙ ap (λ (l : List ℕ). h ++ l) (sym codes)),
      ap length codes ∙ omega (arith, size, six, length-append (codes_of (take i es)) code),
    )
