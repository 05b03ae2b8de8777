-- An empty recording on a blank device, and looking at one.
use Rattle.std.proofs.Common.{◌≡◌, ◌==◌, ◌&&◌, inl, inr, ⊎_elim, ℕ, zero, suc, ◌+◌, ◌<◌, ◌≤◌, List, [], ◌∷◌, ◌++◌, length, drop, set, Bool, true, false, if◌then◌else◌, Some, None, Result, refl, sym, ap, ◌∙◌, subst, arith, length-set, length-take, length-drop}
use Rattle.std.proofs.lemmas.List.{drop_at, get_or-set_same, get_or-set_other, ext_get_or}
use Rattle.std.proofs.lemmas.Bool.{cases_eq, and_parts}
use Rattle.std.proofs.lemmas.Bool.Decides.{nat_tests}
use lib.ListN.{replicate}
use Rattle.sector_device.specs.DiskState.{DiskState, Settled, HasWritten, sector_at}
use Rattle.sector_device.specs.Looking.{LooksOnly}
use Rattle.sector_device.specs.Runs.{HoldsThroughout, Mixed}
use Rattle.sector_device.proofs.Runs.{has_written, mixed_set, mixed_old, throughout_weaker}
use Rattle.input_entries.specs.Bytes.{begins_with, zeros}
use Rattle.input_entries.specs.Inputs.{inputs}
use Rattle.recording.specs.Calls.{IsBlank, IsOldOrEmpty}
use Rattle.recording.specs.Format.{blank, head, head_front, is_head, is_head_of, entries_at, list_from}
use Rattle.recording.specs.Keeping.{EndsAt, IsStored, HasBegun}
use Rattle.recording.specs.Recorded.{entries, recorded}
use Rattle.recording.specs.Sizes.{most_sectors, list_sectors}
use Rattle.recording.proofs.Images.{list_sector_in}
use Rattle.recording.proofs.ListBytes.{list_packing, blank_has_none, nothing_has_none}
use Rattle.input_entries.proofs.Sectors.{short_last}

-- ---- zeros

pub zeros_are : (l : List ℕ) → zeros l ≡ true → l ≡ replicate (length l) 0
zeros_are [] is = refl
zeros_are (x ∷ l) is =
    let p = and_parts _ _ is in
    let none : x ≡ 0 = (let q = p.0 in grind (arith, nat_tests)) in
    (λ i. none i ∷ zeros_are l p.1 i)

pub zeros_replicate : (n : ℕ) → zeros (replicate n 0) ≡ true
zeros_replicate zero = refl
zeros_replicate (suc n) = zeros_replicate n

pub blank_of_zeros : (l : List ℕ) → length l ≡ 512 → zeros l ≡ true → l ≡ blank
blank_of_zeros l size is = zeros_are l is ∙ ap (λ n. replicate n 0) size

-- ---- the head

begins_self : (l rest : List ℕ) → begins_with l (l ++ rest) ≡ true
begins_self [] rest = refl
begins_self (x ∷ l) rest =
    let same : (x == x) ≡ true = grind (arith, nat_tests) in
    (λ i. same i && begins_self l rest i)

pub head_is_head : (id : List ℕ) → length id ≡ 32 → is_head_of id (head id) ≡ true
unfolding is_head_of is_head head
head_is_head id size =
    let rest : drop 44 (head_front ++ id ++ replicate 468 0) ≡ replicate 468 0 = drop_at id (replicate 468 0) 32 size in
    let blank_rest : zeros (drop 44 (head_front ++ id ++ replicate 468 0)) ≡ true = ap zeros rest ∙ zeros_replicate 468 in
    (λ i. blank_rest i && begins_self id (replicate 468 0) i)

pub nothing_is_no_head : (image : List (List ℕ)) → length image ≡ 0 → is_head (sector_at image 0) ≡ false
unfolding is_head
nothing_is_no_head [] none = refl
nothing_is_no_head (s ∷ image) none = absurd (omega arith)

-- ---- an empty list

pub no_entries : (image : List (List ℕ)) → ((k : ℕ) → 1 ≤ k → k < length image → sector_at image k ≡ blank) → entries image ≡ []
unfolding entries
no_entries image is = go (list_sectors image) refl
  where
    go : (ss : List (List ℕ)) → list_sectors image ≡ ss → list_from 1 ss ≡ []
    go [] same = refl
    go (s ∷ ss) same =
        let some : 0 < length (list_sectors image) = omega (arith, ap length same) in
        let in_image : 1 < length image = omega (arith, some, length-take most_sectors (drop 1 image), length-drop 1 image) in
        let first : s ≡ blank = ap (λ (l : List (List ℕ)). sector_at l 0) (sym same) ∙ list_sector_in image 0 some ∙ is 1 (omega arith) in_image in
        short_last list_packing 1 s ss [] (ap (entries_at 1) first ∙ blank_has_none 1) (omega arith)

pub ends_empty : (image : List (List ℕ)) → ((k : ℕ) → 1 ≤ k → k < length image → sector_at image k ≡ blank) → EndsAt image 0 []
ends_empty image is = record {
  each_full = λ k le. absurd (omega arith);
  tail_is = go (list_sectors image) refl;
  within = omega arith;
}
  where
    go : (ss : List (List ℕ)) → list_sectors image ≡ ss → entries_at (0 + 1) (sector_at (list_sectors image) 0) ≡ []
    go [] same = ap (λ (l : List (List ℕ)). entries_at 1 (sector_at l 0)) same ∙ nothing_has_none 1
    go (s ∷ ss) same =
        let some : 0 < length (list_sectors image) = omega (arith, ap length same) in
        let in_image : 1 < length image = omega (arith, some, length-take most_sectors (drop 1 image), length-drop 1 image) in
        ap (entries_at 1) (list_sector_in image 0 some ∙ is 1 (omega arith) in_image) ∙ blank_has_none 1

pub recorded_empty : (id : List ℕ) (image : List (List ℕ)) → length id ≡ 32 → sector_at image 0 ≡ head id → ((k : ℕ) → 1 ≤ k → k < length image → sector_at image k ≡ blank) → recorded id image ≡ Some []
unfolding recorded
recorded_empty id image size first is =
    (λ i. if (ap (is_head_of id) first ∙ head_is_head id size) i then Some (inputs (no_entries image is i)) else None)

-- ---- the head is written on a blank device

module _ (s : List (List ℕ)) (id : List ℕ) (size : length id ≡ 32) (some : 2 ≤ length s) (is_blank : IsBlank s) where
  abbrev new : List (List ℕ)
  new = set s 0 (head id)

  pub new_first : sector_at new 0 ≡ head id
  new_first = get_or-set_same s 0 (head id) [] (omega arith)

  pub new_rest : (k : ℕ) → 1 ≤ k → k < length new → sector_at new k ≡ blank
  new_rest k le less = get_or-set_other s 0 k (head id) [] (λ same. omega arith) ∙ is_blank k (omega (arith, less, length-set s 0 (head id)))

  pub new_empty : recorded id new ≡ Some []
  new_empty = recorded_empty id new size new_first new_rest

  -- each image in between
  pub old_or_empty : (old : DiskState) → old.image s → (c : List (List ℕ)) → Mixed s new c → IsOldOrEmpty old id c
  old_or_empty old was c mixed = ⊎_elim
      (λ first. inl (subst old.image (sym (ext_get_or [] c s mixed.size (λ k le. elim (cases_eq k 0) [
        | inl here ↦ ap (sector_at c) here ∙ first ∙ ap (sector_at s) (sym here)
        | inr other ↦ same k other
      ]))) was))
      (λ first. inr (recorded_empty id c size (first ∙ new_first) (λ k le less. same k (λ here. omega (arith, here, le)) ∙ is_blank k (omega (arith, less, mixed.size)))))
      (mixed.each 0)
    where
      same : (k : ℕ) → (k ≡ 0 → ⊥) → sector_at c k ≡ sector_at s k
      same k other = ⊎_elim (λ o. o) (λ n. n ∙ get_or-set_other s 0 k (head id) [] other) (mixed.each k)

module _ (old mid : DiskState) (id : List ℕ) (size : length id ≡ 32) (looked : LooksOnly old mid) (settled : Settled mid) (some : 2 ≤ length mid.sectors) (is_blank : IsBlank mid.sectors) (reads : mid.image mid.sectors) where
  abbrev new_image : List (List ℕ)
  new_image = set mid.sectors 0 (head id)

  begun : HoldsThroughout old mid (IsOldOrEmpty old id) (Mixed mid.sectors new_image)
  begun = record {
    honest = looked.honest;
    throughout = throughout_weaker looked.time (λ c i. inl i);
    images = λ c i. subst (Mixed mid.sectors new_image) (sym (settled c i)) (mixed_old mid.sectors new_image);
    entails = old_or_empty mid.sectors id size some is_blank old (looked.images mid.sectors reads);
    past = looked.past;
  }

  pub head_written : {E : Type 0} {now : DiskState} {bytes : List ℕ} {r : Result Unit E} → bytes ≡ head id → HasWritten 0 bytes mid now r → HoldsThroughout old now (IsOldOrEmpty old id) (Mixed mid.sectors new_image)
  head_written {bytes} is wrote = has_written begun wrote (λ d mixed. mixed_set mid.sectors new_image d 0 bytes (omega arith) (is ∙ sym (new_first mid.sectors id size some is_blank)) mixed)

pub begun_stored : (old : List (List ℕ)) (now : DiskState) (id : List ℕ) → length id ≡ 32 → 2 ≤ length now.sectors → HasBegun old now id → IsStored now 0 [] 0 true
begun_stored old now id size some b =
    let many : 2 ≤ length old = omega (arith, some, ap length b.sectors_are, length-set old 0 (head id)) in
    let rest : (k : ℕ) → 1 ≤ k → k < length now.sectors → sector_at now.sectors k ≡ blank = λ k le less. ap (λ s. sector_at s k) b.sectors_are ∙ new_rest old id size many b.blank k le (omega (arith, less, ap length b.sectors_are)) in
    record {
      settled = b.settled;
      ends = ends_empty now.sectors rest;
      counted = ap (λ l. length (inputs l)) (sym (no_entries now.sectors rest));
      blank = λ _ k le less. rest k (omega arith) less;
    }

pub begun_empty : (old : List (List ℕ)) (now : DiskState) (id : List ℕ) → length id ≡ 32 → 2 ≤ length now.sectors → HasBegun old now id → recorded id now.sectors ≡ Some []
begun_empty old now id size some b =
    let many : 2 ≤ length old = omega (arith, some, ap length b.sectors_are, length-set old 0 (head id)) in
    ap (recorded id) b.sectors_are ∙ new_empty old id size many b.blank

pub recorded_is : (id : List ℕ) (image : List (List ℕ)) → is_head_of id (sector_at image 0) ≡ true → recorded id image ≡ Some (inputs (entries image))
unfolding recorded
recorded_is id image is = ap (λ (b : Bool). if b then Some (inputs (entries image)) else None) is
