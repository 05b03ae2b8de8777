-- What was found, by what the definitions say of the image.
use Rattle.std.proofs.Common.{◌≡◌, ◌+◌, ◌-◌, ◌^◌, ◌<◌, ◌≤◌, ℕ, inl, inr, length, List, Bool, true, false, if◌then◌else◌, nat_lt, Option, Some, None, refl, sym, ap, ◌∙◌, arith}
use Rattle.std.proofs.lemmas.Bool.{cases_Bool}
use Rattle.std.proofs.lemmas.Bool.Decides.{nat_tests}
use Rattle.sector_device.specs.DiskState.{DiskState}
use Rattle.log_format.specs.Content.{Body, header_of, need, area, content, content_by, content_in}
use Rattle.log_format.specs.Inputs.{counted}
use Rattle.sector_log.specs.Reading.{IsFound}
use Rattle.log_format.specs.Found.{found_by, found_in, is_too_small, no_body, log_of, log_in, blob_in, Seen, seen_in, IsSound, found_with}
use Rattle.input_entries.specs.declared.StoredEntry.{StoredEntry}
use Rattle.log_format.specs.declared.content.Header.{Header}
use Rattle.log_format.specs.declared.root.Root.{Root}
use Rattle.log_format.specs.declared.content.Found.TheVariants.{Nothing, Intact, Damaged}
use Rattle.log_format.specs.declared.content.Part.TheVariants.{Length, Count}

by_short : (root : Root) (body : Option Body) → no_body body ≡ true → Damaged (header_of root) (Length (need root.blob_length)) ≡ found_by (header_of root) body
by_short root None short = refl
by_short root (Some body) short = absurd (cc)

by_log : (root : Root) (body : Option Body) (log : List StoredEntry) → no_body body ≡ false → log_in body ≡ log
    → found_by (header_of root) body ≡ (if nat_lt (2 ^ 64 - 1) (root.base + counted 0 log) then Damaged (header_of root) Count else Intact (header_of root))
by_log root None log short is = absurd (cc)
by_log root (Some body) log short is = ap (λ (l : List StoredEntry). if nat_lt (2 ^ 64 - 1) (root.base + counted 0 l) then Damaged (header_of root) Count else Intact (header_of root)) is

module _ (now : DiskState) (root : Root) (short : Bool) (log : List StoredEntry) (found : IsFound now (Some root) short log) where
  here : content now.sectors ≡ content_by (Some root) now.sectors
  here = ap (λ (r : Option Root). content_by r now.sectors) found.chosen_is

  abbrev body : Option Body
  body = (content_in root (area root.generation now.sectors)).body

  pub found_damaged : short ≡ true → Damaged (header_of root) (Length (need root.blob_length)) ≡ found_in (content now.sectors)
  found_damaged is = by_short root body (sym (ap is_too_small here) ∙ found.too_small_is ∙ is) ∙ sym (ap found_in here)

  whole : short ≡ false → found_in (content now.sectors) ≡ (if nat_lt (2 ^ 64 - 1) (root.base + counted 0 log) then Damaged (header_of root) Count else Intact (header_of root))
  whole is = ap found_in here ∙ by_log root body log (sym (ap is_too_small here) ∙ found.too_small_is ∙ is) (sym (ap log_of here) ∙ found.log_is)

pub found_nothing : (now : DiskState) (short : Bool) (log : List StoredEntry) → IsFound now None short log → Nothing ≡ found_in (content now.sectors)
found_nothing now short log found = sym (ap (λ (r : Option Root). found_in (content_by r now.sectors)) found.chosen_is)

-- what an opened log keeps, by its fields
abbrev pub seen_with : Option Root → Bool → List StoredEntry → Bool → List ℕ → Seen
seen_with root short log whole blob = record { found = found_with root short log; log = log; blob = if whole then Some blob else None }

pub found_with_is : (now : DiskState) (root : Option Root) (short : Bool) (log : List StoredEntry) → IsFound now root short log → found_with root short log ≡ found_in (content now.sectors)
found_with_is now None short log found = found_nothing now short log found
found_with_is now (Some root) true log found = found_damaged now root true log found refl
found_with_is now (Some root) false log found = sym (whole now root false log found refl)

pub seen_is : (now : DiskState) (root : Option Root) (short : Bool) (log : List StoredEntry) (most : ℕ) (whole : Bool) (blob : List ℕ)
    → IsFound now root short log → blob_in most (content now.sectors) ≡ (if whole then Some blob else None) → seen_with root short log whole blob ≡ seen_in most (content now.sectors)
seen_is now root short log most whole blob found blob_is =
    λ i. record { found = found_with_is now root short log found i; log = sym found.log_is i; blob = sym blob_is i }

-- of any device
sound_counts : (root : Option Root) (short : Bool) (log : List StoredEntry) (c : Header) → found_with root short log ≡ Intact c → c.base + counted 0 log < 2 ^ 64
sound_counts None short log c is = absurd (cc)
sound_counts (Some root) true log c is = absurd (cc)
sound_counts (Some root) false log c is = elim (cases_Bool (nat_lt (2 ^ 64 - 1) (root.base + counted 0 log))) [
  | inl many ↦
      let no : Damaged (header_of root) Count ≡ Intact c = sym (ap (λ (t : Bool). if t then Damaged (header_of root) Count else Intact (header_of root)) many) ∙ is in
      absurd (cc)
  | inr few ↦
      let yes : Intact (header_of root) ≡ Intact c = sym (ap (λ (t : Bool). if t then Damaged (header_of root) Count else Intact (header_of root)) few) ∙ is in
      let same : header_of root ≡ c = cc in
      let base : root.base ≡ c.base = ap (λ (x : Header). x.base) same in
      let fits : root.base + counted 0 log ≤ 2 ^ 64 - 1 = grind (arith, nat_tests) in
      omega (arith, base, fits)
]

pub sound_with : (root : Option Root) (short : Bool) (log : List StoredEntry) (whole : Bool) (blob : List ℕ) → length log ≤ 3200 → IsSound (seen_with root short log whole blob)
sound_with root short log whole blob few = record { few = few; counts = sound_counts root short log }
