-- One turn of the loop that writes the sectors of an append.
use Rattle.std.proofs.Common.{◌≡◌, ◌⊎◌, inl, inr, min, ℕ, ◌+◌, ◌-◌, ◌*◌, ◌<◌, ◌≤◌, List, [], ◌++◌, length, take, drop, refl, sym, ap, ◌∙◌, subst, arith, append_assoc, length-append, length-drop}
use Rattle.std.proofs.lemmas.List.{append-nil, length-take-le, take_at, drop_at, take_all, drop_all, get_or_past}
use Rattle.std.proofs.lemmas.Bool.{cases_lt}
use lib.Seq.{take-add}
use Rattle.input_entries.specs.declared.Entry.{Entry}
use Rattle.input_entries.specs.declared.StoredEntry.{StoredEntry}
use Rattle.sector_device.specs.DiskState.{sector_at}
use Rattle.sector_device.specs.Runs.{WrittenUpTo}
use Rattle.recording.specs.Format.{list_sector}
use Rattle.input_entries.specs.Growing.{with_inputs}
use Rattle.recording.specs.Keeping.{AreGood, BlankFrom, grown_image, HasPacked}
use Rattle.recording.specs.Sizes.{sectors_for}
use Rattle.input_entries.proofs.MoreInputs.{some-with_inputs}
use Rattle.recording.proofs.Images.{grown_before, grown_after, grown_past, length-grown}

-- The entries `now` fill the sector behind the first `at` entries of a list, of which `tail` and these inputs are the rest.
module _ (list tail now : List StoredEntry) (rest : List Entry) (at r : ℕ) (within : at ≤ length list) (is : list ≡ take at list ++ with_inputs tail rest) (some : r ≤ length rest)
    (filled : now ≡ with_inputs tail (take r rest)) (short : length now ≤ 83)
    (more : r < length rest → (length now ≡ 83) × (with_inputs tail rest ≡ now ++ with_inputs [] (drop r rest))) where
  size : length (take at list) ≡ at
  size = length-take-le at list within

  behind_at : drop at list ≡ with_inputs tail rest
  behind_at = ap (drop at) is ∙ drop_at (take at list) (with_inputs tail rest) at size

  ended : length rest ≤ r → with_inputs tail rest ≡ now
  ended le = sym (filled ∙ ap (with_inputs tail) (take_all r rest le))

  pub chunk_is : take 83 (drop at list) ≡ now
  chunk_is = elim (cases_lt r (length rest)) [
    | inl lt ↦ ap (take 83) (behind_at ∙ (more lt).1) ∙ take_at now (with_inputs [] (drop r rest)) 83 (more lt).0
    | inr le ↦ ap (take 83) (behind_at ∙ ended le) ∙ take_all 83 now short
  ]

  goes_on : with_inputs tail rest ≡ now ++ with_inputs [] (drop r rest)
  goes_on = elim (cases_lt r (length rest)) [
    | inl lt ↦ (more lt).1
    | inr le ↦ ended le ∙ sym (append-nil now) ∙ ap (λ l. now ++ with_inputs [] l) (sym (drop_all r rest le))
  ]

  pub turned_full : length now ≡ 83 → list ≡ take (at + 83) list ++ with_inputs [] (drop r rest)
  turned_full full =
      is ∙ ap (λ l. take at list ++ l) goes_on ∙ sym (append_assoc (take at list) now (with_inputs [] (drop r rest)))
      ∙ ap (λ l. l ++ with_inputs [] (drop r rest)) (sym (take-add at 83 list ∙ ap (λ l. take at list ++ l) chunk_is))

  pub within_full : length now ≡ 83 → at + 83 ≤ length list
  within_full full = omega (arith, ap length is, length-append (take at list) (with_inputs tail rest), size, full, ap length goes_on, length-append now (with_inputs [] (drop r rest)))

  all_done : length now < 83 → length rest ≤ r
  all_done less = elim (cases_lt r (length rest)) [
    | inl lt ↦ absurd (omega (arith, (more lt).0))
    | inr le ↦ le
  ]

  pub turned_short : length now < 83 → list ≡ take at list ++ with_inputs now (drop r rest)
  turned_short less =
      let le = all_done less in
      is ∙ ap (λ l. take at list ++ l) (ended le) ∙ ap (λ l. take at list ++ with_inputs now l) (sym (drop_all r rest le))

-- ---- the sectors

-- there is a sector for the inputs that are left
pub room_left : (list tail : List StoredEntry) (rest : List Entry) (first full last : ℕ) → length list ≤ 83 * (last - first) → first ≤ full → 83 * (full - first) ≤ length list
    → list ≡ take (83 * (full - first)) list ++ with_inputs tail rest → 0 < length rest → full < last
room_left list tail rest first full last fits later within is some =
    omega (arith, fits, later, ap length is, length-append (take (83 * (full - first)) list) (with_inputs tail rest), length-take-le (83 * (full - first)) list within, some-with_inputs tail rest some)

pub sector_is : (s : List (List ℕ)) (first full : ℕ) (list now : List StoredEntry) → first ≤ full → full + 1 < length s → take 83 (drop (83 * (full - first)) list) ≡ now
    → list_sector (full + 1) now ≡ sector_at (grown_image first list s) (full + 1)
sector_is s first full list now later within is =
    let e : first + 1 + (full - first) ≡ full + 1 = omega arith in
    sym (ap (sector_at (grown_image first list s)) (sym e) ∙ grown_after first list s (omega arith) (full - first) (omega arith) ∙ (λ i. list_sector (e i) (is i)))

-- what a turn leaves
pub record Turned (first full : ℕ) (list tail : List StoredEntry) (rest : List Entry) : Type 0 where
  pub later : first ≤ full
  pub short : length tail < 83
  pub good : AreGood tail
  pub within : 83 * (full - first) ≤ length list
  pub is : list ≡ take (83 * (full - first)) list ++ with_inputs tail rest
  pub next : 0 < length rest → length tail ≡ 0

-- the sector was filled, or the inputs were used up
abbrev pub GoesOn : ℕ → ℕ → List StoredEntry → List StoredEntry → Type 0
GoesOn full full' now tail' = ((length now ≡ 83) × (full' ≡ full + 1) × (tail' ≡ [])) ⊎ ((length now < 83) × (full' ≡ full) × (tail' ≡ now))

module _ (list tail now : List StoredEntry) (rest : List Entry) (first full r : ℕ) (later : first ≤ full) (within : 83 * (full - first) ≤ length list) (is : list ≡ take (83 * (full - first)) list ++ with_inputs tail rest) (some : r ≤ length rest)
    (filled : now ≡ with_inputs tail (take r rest)) (short : length now ≤ 83) (good : AreGood now)
    (more : r < length rest → (length now ≡ 83) × (with_inputs tail rest ≡ now ++ with_inputs [] (drop r rest))) where
  pub turned : (full' : ℕ) (tail' : List StoredEntry) → GoesOn full full' now tail' → AreGood [] → Turned first full' list tail' (drop r rest)
  turned full' tail' (inl p) empty =
      let at : 83 * (full - first) + 83 ≡ 83 * (full' - first) = omega (arith, p.1, later) in
      record {
        later = omega (arith, p.1, later);
        short = omega (arith, ap length p.2);
        good = subst AreGood (sym p.2) empty;
        within = omega (arith, at, within_full list tail now rest (83 * (full - first)) r within is some filled short more p.0);
        is = turned_full list tail now rest (83 * (full - first)) r within is some filled short more p.0
            ∙ (λ i. take (at i) list ++ with_inputs (sym p.2 i) (drop r rest));
        next = λ _. ap length p.2;
      }
  turned full' tail' (inr p) empty =
      let done = all_done list tail now rest (83 * (full - first)) r within is some filled short more p.0 in
      record {
        later = omega (arith, p.1, later);
        short = omega (arith, ap length p.2, p.0);
        good = subst AreGood (sym p.2) good;
        within = omega (arith, p.1, within);
        is = turned_short list tail now rest (83 * (full - first)) r within is some filled short more p.0
            ∙ (λ i. take (83 * (sym p.1 i - first)) list ++ with_inputs (sym p.2 i) (drop r rest));
        next = λ left. absurd (omega (arith, left, length-drop r rest, done));
      }

-- before the first write
pub none_written : (s : List (List ℕ)) (first n : ℕ) (list : List StoredEntry) → first + 1 ≤ length s → WrittenUpTo s (grown_image first list s) (first + 1 + min n 0) s
none_written s first n list within = record {
  size = refl;
  done = λ k le. sym (grown_before first list s within k (omega (arith, le)));
  left = λ k le. refl;
}

-- as many sectors are written as there are full ones, and one for the last entries
pub written_to : (full full' done r : ℕ) (now tail' : List StoredEntry) → GoesOn full full' now tail' → 0 < length now → 0 < r → full + 1 + 1 ≡ full' + 1 + min (sectors_for (length tail')) (done + r)
written_to full full' done r now tail' (inl p) some more = omega (arith, p.1, ap length p.2)
written_to full full' done r now tail' (inr p) some more = omega (arith, p.1, ap length p.2, p.0, some, more)

-- ---- the end

-- the sectors behind are blank in both
pub same_behind : (s : List (List ℕ)) (first full done : ℕ) (list tail0 tail : List StoredEntry) → HasPacked first list full tail → 0 < length list → 0 < done → length tail0 < 83 → first + 1 ≤ length s
    → BlankFrom s (1 + first + sectors_for (length tail0)) → (k : ℕ) → full + 1 + min (sectors_for (length tail)) done ≤ k → sector_at (grown_image first list s) k ≡ sector_at s k
same_behind s first full done list tail0 tail p some more short within blank_after k le = elim (cases_lt k (length s)) [
  | inl less ↦
      let size : length list ≡ 83 * (full - first) + length tail = omega (arith, ap length p.is, length-append (take (83 * (full - first)) list) tail, length-take-le (83 * (full - first)) list p.within) in
      let past : length list ≤ 83 * (k - (first + 1)) = omega (arith, size, le, p.later, p.short, more) in
      let from : 1 + first + sectors_for (length tail0) ≤ k = omega (arith, size, le, p.later, p.short, more, some, short) in
      grown_past first list s within k (omega (arith, le, p.later)) past less ∙ sym (blank_after k from less)
  | inr over ↦ get_or_past (grown_image first list s) k [] (omega (arith, over, length-grown first list s within)) ∙ sym (get_or_past s k [] over)
]
