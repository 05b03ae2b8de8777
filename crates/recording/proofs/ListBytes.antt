-- A sector of the list that was written is read back.
use Rattle.std.proofs.Common.{◌≡◌, ◌&&◌, inl, inr, ℕ, zero, suc, ◌+◌, ◌-◌, ◌*◌, ◌<◌, ◌≤◌, List, [], ◌∷◌, ◌++◌, length, take, drop, get_or, Bool, true, false, if◌then◌else◌, refl, ap, sym, ◌∙◌, arith, length-append, length-drop}
use Rattle.std.proofs.lemmas.List.{drop-drop, length-take-le, append-nil, take_more, drop_more}
use Rattle.std.proofs.lemmas.Bool.{and_parts, cases_Bool}
use Rattle.std.proofs.lemmas.Bool.Decides.{nat_tests}
use Rattle.std.proofs.lemmas.Nat.{from_le_bytes-to_le_bytes_2, from_le_bytes-to_le_bytes_4}
use Rattle.std.specs.List.{flat_map, list_all}
use Rattle.std.specs.Int.{w32, to_le_bytes, from_le_bytes}
use lib.ListN.{replicate}
use Rattle.input_entries.specs.Growing.{with_input}
use Rattle.input_entries.specs.Inputs.{is_entry, is_input, is_run, run_length, inputs_in, inputs, all_entries}
use Rattle.input_entries.specs.declared.Entry.{Entry}
use Rattle.input_entries.specs.declared.StoredEntry.{StoredEntry}
use Rattle.input_entries.proofs.CodeLengths.{AreCodes, codes_of_each, each_of_codes, entries_of_each, each_of_entries, codes_read}
use Rattle.input_entries.proofs.Sectors.{Packing}
use Rattle.input_entries.proofs.MoreInputs.{one_more, codes-with_input}
use Rattle.input_entries.proofs.Meanings.{inputs_size}
use Rattle.input_entries.proofs.Runs.{inputs-append}
use Rattle.recording.specs.Format.{blank, has_front, is_list_sector, count_in, entries_in, entries_from, entries_at, list_from, list_sector, stored}
use Rattle.recording.specs.Keeping.{AreGood}

pub good_of : (es : List StoredEntry) → AreCodes es → all_entries es → AreGood es
good_of es codes are = record { six = each_of_codes es codes; entry = each_of_entries es are }

-- so they are with one input more
pub good_more : (list : List StoredEntry) (e : Entry) → AreGood list → length e.code ≡ 5 → is_input e ≡ true → AreGood (with_input list e)
good_more list e good size input =
    let more = one_more list e (entries_of_each list good.entry) size input in
    good_of (with_input list e) (codes-with_input list e (codes_of_each list good.six) size) more.each

entries_read : (es : List StoredEntry) (rest : List ℕ) → AreCodes es → entries_from (length es) (flat_map (λ (x : StoredEntry). x.code) es ++ rest) ≡ es
entries_read [] rest are = refl
entries_read (e ∷ es) rest are =
    let read = codes_read e es rest are.0 in
    λ i. record { code = read.0 i } ∷ (ap (entries_from (length es)) read.1 ∙ entries_read es rest are.1) i

all_so : (es : List StoredEntry) → all_entries es → list_all is_entry es ≡ true
all_so [] are = refl
all_so (e ∷ es) are = λ i. are.0 i && all_so es are.1 i

pub all_means : (es : List StoredEntry) → list_all is_entry es ≡ true → all_entries es
all_means [] is = tt
all_means (e ∷ es) is = let p = and_parts _ _ is in (p.0, all_means es p.1)

pub blank_has_none : (number : ℕ) → entries_at number blank ≡ []
unfolding entries_at is_list_sector has_front
blank_has_none number = refl

pub nothing_has_none : (number : ℕ) → entries_at number [] ≡ []
unfolding entries_at is_list_sector has_front
nothing_has_none number = refl

pub none_is_blank : (number : ℕ) → list_sector number [] ≡ blank
unfolding list_sector
none_is_blank number = refl

pub entries_written : (number : ℕ) (es : List StoredEntry) → number < 4294967296 → length es ≤ 83 → AreCodes es → all_entries es → entries_at number (list_sector number es) ≡ es
unfolding entries_at is_list_sector has_front list_sector
entries_written number [] small few codes are = blank_has_none number
entries_written number (e ∷ es) small few codes are =
    let sector = list_sector number (e ∷ es) in
    let rest = replicate (502 - 6 * length (e ∷ es)) 0 in
    let here : from_le_bytes w32 (to_le_bytes w32 number) ≡ number = from_le_bytes-to_le_bytes_4 number (omega arith) in
    let count : count_in sector ≡ length (e ∷ es) = from_le_bytes-to_le_bytes_2 (length (e ∷ es)) (omega arith) in
    let front : has_front number sector ≡ true = rw (here, count) (grind (arith, nat_tests)) in
    let read : entries_in sector ≡ e ∷ es = ap (λ n. entries_from n (drop 10 sector)) count ∙ entries_read (e ∷ es) rest codes in
    let all : list_all is_entry (entries_in sector) ≡ true = ap (list_all is_entry) read ∙ all_so (e ∷ es) are in
    (λ i. if front i && all i then entries_in sector else []) ∙ read

-- how entries are packed in the sectors of the list
abbrev pub list_packing : Packing
list_packing = record {
  per = 83;
  limit = 4294967296;
  read = entries_at;
  write = list_sector;
  from = list_from;
  some = omega arith;
  back = entries_written;
  nothing = nothing_has_none;
  none = λ number. refl;
  next = λ number s sectors. refl;
}

-- the entries of the sector with this index after the first of these
abbrev pub chunk : ℕ → List StoredEntry → List StoredEntry
chunk k list = take 83 (drop (83 * k) list)

-- ---- reading

pub length-entries_from : (n : ℕ) (bytes : List ℕ) → length (entries_from n bytes) ≡ n
length-entries_from zero bytes = refl
length-entries_from (suc n) bytes = omega (arith, length-entries_from n (drop 6 bytes))

-- what is found, by the number of entries of the front and by whether they are inputs
pub found : (number count : ℕ) (sector : List ℕ) (b : Bool) → count ≡ (if has_front number sector then count_in sector else 0) → list_all is_entry (entries_from count (drop 10 sector)) ≡ b
    → (if b then entries_from count (drop 10 sector) else []) ≡ entries_at number sector
unfolding entries_at is_list_sector
found number count sector b is all = go (has_front number sector) refl b all
  where
    go : (t : Bool) → has_front number sector ≡ t → (b : Bool) → list_all is_entry (entries_from count (drop 10 sector)) ≡ b
        → (if b then entries_from count (drop 10 sector) else []) ≡ (if has_front number sector && list_all is_entry (entries_in sector) then entries_in sector else [])
    go true front b all =
        let same : count ≡ count_in sector = is ∙ ap (λ (t : Bool). if t then count_in sector else 0) front in
        let each : list_all is_entry (entries_in sector) ≡ b = ap (λ n. list_all is_entry (entries_from n (drop 10 sector))) (sym same) ∙ all in
        ap (λ n. if b then entries_from n (drop 10 sector) else []) same ∙ sym (λ i. if front i && each i then entries_in sector else [])
    go false front true all = ap (λ n. entries_from n (drop 10 sector)) (is ∙ ap (λ (t : Bool). if t then count_in sector else 0) front) ∙ sym (ap (λ (t : Bool). if t && list_all is_entry (entries_in sector) then entries_in sector else []) front)
    go false front false all = sym (ap (λ (t : Bool). if t && list_all is_entry (entries_in sector) then entries_in sector else []) front)

-- ---- entry by entry

pub entries_more : (n : ℕ) (bytes : List ℕ) → entries_from (n + 1) bytes ≡ entries_from n bytes ++ stored (take 6 (drop (6 * n) bytes)) ∷ []
entries_more zero bytes = refl
entries_more (suc n) bytes =
    let next : suc n + 1 ≡ suc (n + 1) = omega arith in
    let at : 6 + 6 * n ≡ 6 * suc n = omega arith in
    ap (λ k. entries_from k bytes) next
    ∙ ap (λ l. stored (take 6 bytes) ∷ l) (entries_more n (drop 6 bytes))
    ∙ ap (λ (l : List ℕ). stored (take 6 bytes) ∷ (entries_from n (drop 6 bytes) ++ stored (take 6 l) ∷ [])) (drop-drop (6 * n) 6 bytes ∙ ap (λ k. drop k bytes) at)

pub codes_from : (n : ℕ) (bytes : List ℕ) → 6 * n ≤ length bytes → AreCodes (entries_from n bytes)
codes_from zero bytes long = tt
codes_from (suc n) bytes long = (length-take-le 6 bytes (omega arith), codes_from n (drop 6 bytes) (omega (arith, length-drop 6 bytes)))

pub all_at : (es : List StoredEntry) (k : ℕ) (d : StoredEntry) → k < length es → list_all is_entry (drop k es) ≡ (is_entry (get_or es k d) && list_all is_entry (drop (k + 1) es))
all_at es k d le = ap (list_all is_entry) (drop_more es k d le)

-- an entry stands for at most as many inputs as the longest run
pub few_inputs : (s : StoredEntry) → length (inputs_in s) ≤ 216000
few_inputs s = elim (cases_Bool (is_run s)) [
  | inl run ↦ let high : run_length s ≤ 216000 = grind (arith, nat_tests) in omega (arith, high, inputs_size s ∙ ap (λ (t : Bool). if t then run_length s else 1) run)
  | inr fails ↦ omega (arith, inputs_size s ∙ ap (λ (t : Bool). if t then run_length s else 1) fails)
]

pub few_inputs_of : (es : List StoredEntry) → length (inputs es) ≤ 216000 * length es
few_inputs_of [] = omega arith
few_inputs_of (e ∷ es) = omega (arith, few_inputs e, few_inputs_of es, length-append (inputs_in e) (inputs es))

pub inputs_more : (es : List StoredEntry) (k : ℕ) (d : StoredEntry) → k < length es → length (inputs (take (k + 1) es)) ≡ length (inputs (take k es)) + length (inputs_in (get_or es k d))
inputs_more es k d le =
    let one : inputs (get_or es k d ∷ []) ≡ inputs_in (get_or es k d) = append-nil (inputs_in (get_or es k d)) in
    omega (arith, ap (λ l. length (inputs l)) (take_more es k d le), ap length (inputs-append (take k es) (get_or es k d ∷ [])), length-append (inputs (take k es)) (inputs (get_or es k d ∷ [])), ap length one)
