-- The entries of a recording, sector by sector.
use Rattle.std.proofs.Common.{◌≡◌, inl, inr, ℕ, zero, suc, ◌+◌, ◌≤◌, List, [], ◌∷◌, ◌++◌, true, if◌then◌else◌, Bool, sym, ap, subst, ◌∙◌, arith, append_assoc, append-nil}
use Rattle.std.specs.List.{list_all}
use Rattle.std.proofs.lemmas.Bool.{cases_Bool, and_parts}
use Rattle.std.proofs.lemmas.Bool.Decides.{eqb_tells}
use Rattle.sector_device.specs.DiskState.{sector_at}
use Rattle.machine.specs.Machine.{Input}
use Rattle.input_entries.specs.Inputs.{inputs, is_entry, all_entries}
use Rattle.input_entries.specs.declared.StoredEntry.{StoredEntry}
use Rattle.input_entries.proofs.Runs.{inputs-append}
use Rattle.recording.specs.Format.{entries_at, entries_in, is_list_sector}
use Rattle.recording.specs.Recorded.{entries, entries_up_to}
use Rattle.session.specs.Inputs.{inputs_of}
use Rattle.session.proofs.StandsLaws.{logged_append}

all_means : (es : List StoredEntry) → list_all is_entry es ≡ true → all_entries es
all_means [] all = tt
all_means (e ∷ es) all = let parts = and_parts (is_entry e) (list_all is_entry es) all in (parts.0, all_means es parts.1)

-- each entry of a sector is an input
pub sector_entries : (number : ℕ) (sector : List ℕ) → all_entries (entries_at number sector)
unfolding entries_at is_list_sector
sector_entries number sector =
    elim (cases_Bool (is_list_sector number sector)) [
      | inl valid ↦ subst (λ (t : Bool). all_entries (if t then entries_in sector else [])) (sym valid) (all_means (entries_in sector) (and_parts _ _ valid).1)
      | inr wrong ↦ subst (λ (t : Bool). all_entries (if t then entries_in sector else [])) (sym wrong) tt
    ]

-- the inputs of the first sectors, and those of one more
abbrev pub inputs_up_to : ℕ → List (List ℕ) → List Input
inputs_up_to n image = inputs_of (inputs (entries_up_to n image))

abbrev pub inputs_at : ℕ → List (List ℕ) → List Input
inputs_at number image = inputs_of (inputs (entries_at number (sector_at image number)))

pub one_more : (n : ℕ) (image : List (List ℕ)) → inputs_up_to (n + 1) image ≡ inputs_up_to n image ++ inputs_at (n + 1) image
one_more n image =
    let next : n + 1 ≡ suc n = omega arith in
    ap (λ k. inputs_of (inputs (entries_up_to k image))) next ∙ ap inputs_of (inputs-append (entries_up_to n image) (entries_at (suc n) (sector_at image (suc n))))
    ∙ logged_append (inputs (entries_up_to n image)) (inputs (entries_at (suc n) (sector_at image (suc n))))
    ∙ ap (λ k. inputs_of (inputs (entries_up_to n image)) ++ inputs_of (inputs (entries_at k (sector_at image k)))) (sym next)

pub entries_more : (n : ℕ) (image : List (List ℕ)) → inputs (entries_up_to (n + 1) image) ≡ inputs (entries_up_to n image) ++ inputs (entries_at (n + 1) (sector_at image (n + 1)))
entries_more n image =
    let next : n + 1 ≡ suc n = omega arith in
    ap (λ k. inputs (entries_up_to k image)) next ∙ inputs-append (entries_up_to n image) (entries_at (suc n) (sector_at image (suc n)))
    ∙ ap (λ k. inputs (entries_up_to n image) ++ inputs (entries_at k (sector_at image k))) (sym next)

-- the first sectors come first
pub record Longer (n k : ℕ) (image : List (List ℕ)) : Type 0 where
  pub more : List Input
  pub is : inputs_up_to k image ≡ inputs_up_to n image ++ more

pub more_sectors : (k n : ℕ) (image : List (List ℕ)) → n ≤ k → Longer n k image
more_sectors zero n image le = let none : 0 ≡ n = omega arith in record { more = []; is = ap (λ j. inputs_up_to j image) none ∙ sym (append-nil (inputs_up_to n image)) }
more_sectors (suc k) n image le =
    elim (eqb_tells n (suc k)) [
      | inl same ↦ record { more = []; is = ap (λ j. inputs_up_to j image) (sym same.1) ∙ sym (append-nil (inputs_up_to n image)) }
      | inr differ ↦
          let below : n ≤ k = let other = differ.1 in omega arith in
          let before = more_sectors k n image below in
          let next : suc k ≡ k + 1 = omega arith in
          record {
            more = before.more ++ inputs_at (k + 1) image;
            is = ap (λ j. inputs_up_to j image) next ∙ one_more k image ∙ ap (λ l. l ++ inputs_at (k + 1) image) before.is ∙ append_assoc (inputs_up_to n image) before.more (inputs_at (k + 1) image);
          }
    ]

pub all_up_to : (used : ℕ) (image : List (List ℕ)) → entries image ≡ entries_up_to used image → inputs_of (inputs (entries image)) ≡ inputs_up_to used image
all_up_to used image whole = ap (λ (l : List StoredEntry). inputs_of (inputs l)) whole
