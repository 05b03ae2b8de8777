-- What images hold: their sectors one by one, their list, and what is recorded.
use Rattle.std.proofs.Common.{◌≡◌, ◌⊎◌, inl, inr, ⊎_elim, ℕ, zero, suc, ◌+◌, ◌-◌, ◌*◌, ◌<◌, ◌≤◌, List, [], ◌++◌, length, take, drop, get_or, Bool, true, false, if◌then◌else◌, Some, None, refl, sym, ap, ◌∙◌, arith, length-append, length-drop, length-take}
use Rattle.std.proofs.lemmas.List.{append-nil, length-take-le, length-replicate, drop_all, get_or_append_left, get_or-append_right, get_or-take, get_or-drop, get_or-replicate, ext_get_or, drop-drop, drop_at, get_or_past}
use Rattle.std.proofs.lemmas.Bool.{cases_lt, cases_eq}
use lib.ListN.{replicate}
use Rattle.sector_device.specs.DiskState.{sector_at}
use Rattle.input_entries.specs.Inputs.{AllFive, all_input, inputs, all_entries}
use Rattle.input_entries.specs.declared.Entry.{Entry}
use Rattle.input_entries.specs.declared.StoredEntry.{StoredEntry}
use Rattle.input_entries.proofs.CodeLengths.{AreCodes}
use Rattle.input_entries.proofs.Runs.{inputs-append}
use Rattle.recording.specs.Calls.{HoldsPrefix, with_more}
use Rattle.recording.specs.Format.{blank, is_head_of, entries_at, list_from, list_sector}
use Rattle.input_entries.specs.Growing.{with_inputs}
use Rattle.recording.specs.Growing.{fits, full_sectors, last_entries, fits_image}
use Rattle.recording.specs.Keeping.{EndsAt, BlankFrom, blanked, written, grown_image}
use Rattle.recording.specs.Recorded.{entries, recorded, entries_up_to}
use Rattle.recording.specs.Sizes.{most_sectors, list_sectors, list_sectors_in, sectors_for}
use Rattle.input_entries.proofs.MoreInputs.{whole}
use Rattle.input_entries.proofs.Sectors.{Ends, split, parts, one_more, same_list, all_put, any_put, inputs_behind}
use Rattle.recording.proofs.ListBytes.{list_packing, chunk, nothing_has_none, blank_has_none, none_is_blank}

pub most_is : most_sectors ≡ 4294967295
unfolding most_sectors
most_is = refl

-- ---- the sectors of the list

pub length-list_sectors : (image : List (List ℕ)) → length (list_sectors image) ≡ list_sectors_in (length image)
length-list_sectors image = omega (arith, length-take most_sectors (drop 1 image), length-drop 1 image)

pub list_sector_at : (image : List (List ℕ)) (k : ℕ) → k < most_sectors → sector_at (list_sectors image) k ≡ sector_at image (k + 1)
list_sector_at image k le =
    let e : 1 + k ≡ k + 1 = omega arith in
    get_or-take most_sectors (drop 1 image) k [] le ∙ get_or-drop 1 image k [] ∙ ap (sector_at image) e

pub list_sector_in : (image : List (List ℕ)) (k : ℕ) → k < length (list_sectors image) → sector_at (list_sectors image) k ≡ sector_at image (k + 1)
list_sector_in image k le = list_sector_at image k (omega (arith, le, length-take most_sectors (drop 1 image)))

-- the sector of the list with this index after so many
pub list_sector_behind : (image : List (List ℕ)) (full k : ℕ) → full + k < length (list_sectors image) → sector_at (list_sectors image) (full + k) ≡ sector_at image (full + 1 + k)
list_sector_behind image full k le = let e : full + k + 1 ≡ full + 1 + k = omega arith in list_sector_in image (full + k) le ∙ ap (sector_at image) e

-- ---- a list of an image in parts

-- its sectors are numbered from 1 on
each_of : (image : List (List ℕ)) (full : ℕ) → ((k : ℕ) → k < full → length (entries_at (k + 1) (sector_at (list_sectors image) k)) ≡ 83)
    → (k : ℕ) → k < full → length (entries_at (1 + k) (sector_at (list_sectors image) k)) ≡ 83
each_of image full each k le = (let e : 1 + k ≡ k + 1 = omega arith in ap (λ n. length (entries_at n (sector_at (list_sectors image) k))) e) ∙ each k le

module _ (image : List (List ℕ)) (full : ℕ) (tail : List StoredEntry) (ends : EndsAt image full tail) (short : length tail < 83) where
  abbrev ss : List (List ℕ)
  ss = list_sectors image

  pub ends_of : Ends list_packing 1 ss full tail
  ends_of = record {
    each = each_of image full ends.each_full;
    tail_is = (let e : 1 + full ≡ full + 1 = omega arith in ap (λ n. entries_at n (sector_at ss full)) e) ∙ ends.tail_is;
    within = ends.within;
    short = short;
  }

  pub entries_of_image : entries image ≡ list_from 1 (take full ss) ++ tail
  unfolding entries
  entries_of_image = parts list_packing ends_of

  front_size : length (list_from 1 (take full ss)) ≡ 83 * full
  front_size = (split list_packing full 1 ss ends_of.within ends_of.each).1

  pub full_of_image : full_sectors image ≡ full
  full_of_image = omega (arith, ap length entries_of_image, length-append (list_from 1 (take full ss)) tail, front_size, short)

  pub last_of_image : last_entries image ≡ tail
  last_of_image =
      ap (λ (l : List StoredEntry). drop (83 * full_sectors image) l) entries_of_image
      ∙ ap (λ n. drop (83 * n) (list_from 1 (take full ss) ++ tail)) full_of_image ∙ drop_at (list_from 1 (take full ss)) tail (83 * full) front_size

  pub fits_of_image : (more : List Entry) → fits_image image more ≡ fits tail (list_sectors_in (length image) - full) more
  unfolding fits_image
  fits_of_image more = λ i. fits (last_of_image i) (list_sectors_in (length image) - full_of_image i) more

-- what is recorded, by the head and the inputs
pub recorded_more : (old image : List (List ℕ)) (more : List Entry) (id : List ℕ) → sector_at image 0 ≡ sector_at old 0 → inputs (entries image) ≡ inputs (entries old) ++ more → recorded id image ≡ with_more more (recorded id old)
unfolding recorded
recorded_more old image more id head is = (λ i. if is_head_of id (head i) then Some (is i) else None) ∙ go (is_head_of id (sector_at old 0))
  where
    go : (b : Bool) → (if b then Some (inputs (entries old) ++ more) else None) ≡ with_more more (if b then Some (inputs (entries old)) else None)
    go true = refl
    go false = refl

-- ---- blank sectors

pub length-blanked : (from : ℕ) (image : List (List ℕ)) → from ≤ length image → length (blanked from image) ≡ length image
length-blanked from image within = omega (arith, length-append (take from image) (replicate (length image - from) blank), length-take-le from image within, length-replicate (length image - from) blank)

pub blanked_before : (from : ℕ) (image : List (List ℕ)) (k : ℕ) → from ≤ length image → k < from → sector_at (blanked from image) k ≡ sector_at image k
blanked_before from image k within le =
    get_or_append_left (take from image) (replicate (length image - from) blank) [] k (omega (arith, length-take-le from image within)) ∙ get_or-take from image k [] le

pub blanked_after : (from : ℕ) (image : List (List ℕ)) (k : ℕ) → from ≤ k → k < length image → sector_at (blanked from image) k ≡ blank
blanked_after from image k le less =
    get_or-append_right (take from image) (replicate (length image - from) blank) from k [] (length-take-le from image (omega arith)) le
    ∙ get_or-replicate (length image - from) (k - from) blank [] (omega arith)

-- one that is blank there already
pub blanked_same : (from : ℕ) (image : List (List ℕ)) → from ≤ length image → BlankFrom image from → image ≡ blanked from image
blanked_same from image within is =
    ext_get_or [] image (blanked from image) (sym (length-blanked from image within)) (λ k le. elim (cases_lt k from) [
      | inl below ↦ sym (blanked_before from image k within below)
      | inr above ↦ is k above le ∙ sym (blanked_after from image k above le)
    ])

-- ---- the image after an append

pub length-written : (n number : ℕ) (list : List StoredEntry) → length (written n number list) ≡ n
length-written zero number list = refl
length-written (suc n) number list = omega (arith, length-written n (suc number) (drop 83 list))

pub written_at : (n number k : ℕ) (list : List StoredEntry) → k < n → sector_at (written n number list) k ≡ list_sector (number + k) (chunk k list)
written_at zero number k list le = absurd (omega arith)
written_at (suc n) number zero list le = let e : number ≡ number + 0 = omega arith in ap (λ m. list_sector m (take 83 list)) e
written_at (suc n) number (suc k) list le =
    let e : suc number + k ≡ number + suc k = omega arith in
    let m : 83 + 83 * k ≡ 83 * suc k = omega arith in
    written_at n (suc number) k (drop 83 list) (omega arith)
    ∙ (λ i. list_sector (e i) (take 83 (drop-drop (83 * k) 83 list i)))
    ∙ ap (λ j. list_sector (number + suc k) (take 83 (drop j list))) m

module _ (full : ℕ) (list : List StoredEntry) (image : List (List ℕ)) (within : full + 1 ≤ length image) where
  pub length-grown : length (grown_image full list image) ≡ length image
  unfolding grown_image
  length-grown = omega (arith, length-append (take (full + 1) image) (written (length image - (full + 1)) (full + 1) list), length-take-le (full + 1) image within, length-written (length image - (full + 1)) (full + 1) list)

  pub grown_before : (k : ℕ) → k ≤ full → sector_at (grown_image full list image) k ≡ sector_at image k
  unfolding grown_image
  grown_before k le =
      get_or_append_left (take (full + 1) image) (written (length image - (full + 1)) (full + 1) list) [] k (omega (arith, length-take-le (full + 1) image within)) ∙ get_or-take (full + 1) image k [] (omega arith)

  pub grown_after : (k : ℕ) → full + 1 + k < length image → sector_at (grown_image full list image) (full + 1 + k) ≡ list_sector (full + 1 + k) (chunk k list)
  unfolding grown_image
  grown_after k le =
      let at : full + 1 + k - (full + 1) ≡ k = omega arith in
      get_or-append_right (take (full + 1) image) (written (length image - (full + 1)) (full + 1) list) (full + 1) (full + 1 + k) [] (length-take-le (full + 1) image within) (omega arith)
      ∙ ap (λ n. get_or (written (length image - (full + 1)) (full + 1) list) n []) at
      ∙ written_at (length image - (full + 1)) (full + 1) k list (omega arith)

  -- behind the list
  pub grown_past : (k : ℕ) → full + 1 ≤ k → length list ≤ 83 * (k - (full + 1)) → k < length image → sector_at (grown_image full list image) k ≡ blank
  grown_past k le past less =
      let j = k - (full + 1) in
      let e : full + 1 + j ≡ k = omega arith in
      ap (sector_at (grown_image full list image)) (sym e) ∙ grown_after j (omega (arith, e, less)) ∙ ap (λ (l : List StoredEntry). list_sector (full + 1 + j) (take 83 l)) (drop_all (83 * j) list past)
      ∙ none_is_blank (full + 1 + j)

-- ---- any of the writes of one append, over blank sectors

module _ (old c : List (List ℕ)) (full : ℕ) (tail : List StoredEntry) (more : List Entry) (ends : EndsAt old full tail) (short : length tail < 83) (codes : AreCodes tail) (are : all_entries tail) (fives : AllFive more) (input : all_input more)
    (some : 1 ≤ length old) (size : length c ≡ length old) (same : (k : ℕ) → k ≤ full → sector_at c k ≡ sector_at old k) where
  abbrev list : List StoredEntry
  list = with_inputs tail more

  abbrev ss_old : List (List ℕ)
  ss_old = list_sectors old

  abbrev ss_c : List (List ℕ)
  ss_c = list_sectors c

  abbrev front : List StoredEntry
  front = list_from 1 (take full ss_old)

  ends_old : Ends list_packing 1 ss_old full tail
  ends_old = ends_of old full tail ends short

  of_old : entries old ≡ front ++ tail
  of_old = entries_of_image old full tail ends short

  sizes : length ss_c ≡ length ss_old
  sizes = length-list_sectors c ∙ ap list_sectors_in size ∙ sym (length-list_sectors old)

  small : 1 + length ss_old ≤ 4294967296
  small = omega (arith, length-take most_sectors (drop 1 old), most_is)

  same_below : (k : ℕ) → k < full → sector_at ss_c k ≡ sector_at ss_old k
  same_below k le =
      list_sector_in c k (omega (arith, sizes, ends.within)) ∙ same (k + 1) (omega arith) ∙ sym (list_sector_in old k (omega (arith, ends.within)))

  inside : (k : ℕ) → full + k < length ss_old → full + 1 + k < length old
  inside k le = omega (arith, le, length-list_sectors old)

  here : (k : ℕ) → full + k < length ss_old → sector_at ss_c (full + k) ≡ sector_at c (full + 1 + k)
  here k le = list_sector_behind c full k (omega (arith, le, sizes))

  there : (k : ℕ) → full + k < length ss_old → sector_at ss_old (full + k) ≡ sector_at old (full + 1 + k)
  there k le = list_sector_behind old full k le

  number : (k : ℕ) → list_sector (full + 1 + k) (chunk k list) ≡ list_sector (1 + full + k) (chunk k list)
  number k = let e : full + 1 + k ≡ 1 + full + k = omega arith in ap (λ n. list_sector n (chunk k list)) e

  -- the list is the same
  pub same_tail : entries_at (full + 1) (sector_at ss_c full) ≡ tail → entries c ≡ entries old
  unfolding entries
  same_tail is =
      let e : 1 + full ≡ full + 1 = omega arith in
      same_list list_packing 1 full ss_old ss_c tail more ends_old small codes are fives input sizes same_below (ap (λ n. entries_at n (sector_at ss_c full)) e ∙ is)

  pub holds_none : entries c ≡ entries old → HoldsPrefix old more c
  holds_none is = record { count = 0; within = omega arith; adds = λ id. recorded_more old c [] id (same 0 (omega arith)) (ap inputs is ∙ sym (append-nil (inputs (entries old)))) }

  -- all of the writes were made
  pub holds_all : ((k : ℕ) → full + 1 + k < length old → sector_at c (full + 1 + k) ≡ list_sector (full + 1 + k) (chunk k list)) → length list ≤ 83 * (list_sectors_in (length old) - full) → inputs (entries c) ≡ inputs (entries old) ++ more
  unfolding entries
  holds_all each fits =
      inputs_behind front tail list (entries old) (entries c) more of_old
      (all_put list_packing 1 full ss_old ss_c tail more ends_old small codes are fives input sizes same_below (λ k le. here k le ∙ each k (inside k le) ∙ number k) (omega (arith, fits, length-list_sectors old)))
      (whole tail more are fives input).stand

  pub holds_prefix : ((k : ℕ) → full + 1 + k < length old → (sector_at c (full + 1 + k) ≡ sector_at old (full + 1 + k)) ⊎ (sector_at c (full + 1 + k) ≡ list_sector (full + 1 + k) (chunk k list)))
      → BlankFrom old (1 + full + sectors_for (length tail)) → HoldsPrefix old more c
  unfolding entries
  holds_prefix each blank_after =
      let cut = any_put list_packing 1 full ss_old ss_c tail more ends_old small codes are fives input sizes same_below
      (λ k le. ⊎_elim (λ was. inl (here k le ∙ was ∙ sym (there k le))) (λ put. inr (here k le ∙ put ∙ number k)) (each k (inside k le)))
      (λ k some le. ap (entries_at (1 + full + k)) (there k le ∙ blank_after (full + 1 + k) (omega (arith, some, short)) (inside k le)) ∙ blank_has_none (1 + full + k)) in
      let before = take cut.holds.count more in
      record {
        count = cut.holds.count;
        within = cut.holds.within;
        adds = λ id. recorded_more old c before id (same 0 (omega arith)) (inputs_behind front tail cut.cut (entries old) (entries c) before of_old cut.is cut.holds.stand);
      }

-- ---- reading on

module _ (image : List (List ℕ)) (full count : ℕ) (each_full : (k : ℕ) → k < full → length (entries_at (k + 1) (sector_at (list_sectors image) k)) ≡ 83) (counted : count ≡ length (inputs (list_from 1 (take full (list_sectors image))))) where
  -- the next sector is full too
  pub each_more : (buffer : List ℕ) → buffer ≡ sector_at image (full + 1) → full < length (list_sectors image) → length (entries_at (full + 1) buffer) ≡ 83
      → (k : ℕ) → k < full + 1 → length (entries_at (k + 1) (sector_at (list_sectors image) k)) ≡ 83
  each_more buffer is less more k le = elim (cases_eq k full) [
    | inl here ↦ ap (λ j. length (entries_at (j + 1) (sector_at (list_sectors image) j))) here ∙ ap (λ s. length (entries_at (full + 1) s)) (list_sector_in image full less ∙ sym is) ∙ more
    | inr other ↦ each_full k (omega arith)
  ]

  pub counted_more : (buffer : List ℕ) (now : ℕ) → buffer ≡ sector_at image (full + 1) → full < length (list_sectors image) → now ≡ count + length (inputs (entries_at (full + 1) buffer))
      → now ≡ length (inputs (list_from 1 (take (full + 1) (list_sectors image))))
  counted_more buffer now is less more =
      let ss = list_sectors image in
      let same : sector_at ss full ≡ buffer = list_sector_in image full less ∙ sym is in
      let e : 1 + full ≡ full + 1 = omega arith in
      let all : list_from 1 (take (full + 1) ss) ≡ list_from 1 (take full ss) ++ entries_at (full + 1) buffer = one_more list_packing full 1 ss less (each_of image full each_full) ∙ (λ i. list_from 1 (take full ss) ++ entries_at (e i) (same i)) in
      omega (arith, more, counted, ap (λ l. length (inputs l)) all, ap length (inputs-append (list_from 1 (take full ss)) (entries_at (full + 1) buffer)), length-append (inputs (list_from 1 (take full ss))) (inputs (entries_at (full + 1) buffer)))

  -- the list ends in the next sector
  pub ends_here : (buffer : List ℕ) → buffer ≡ sector_at image (full + 1) → full < length (list_sectors image) → EndsAt image full (entries_at (full + 1) buffer)
  ends_here buffer is less = record {
    each_full = each_full;
    tail_is = ap (entries_at (full + 1)) (list_sector_in image full less ∙ sym is);
    within = omega arith;
  }

  pub counted_here : (tail : List StoredEntry) (now : ℕ) → EndsAt image full tail → length tail < 83 → now ≡ count + length (inputs tail) → now ≡ length (inputs (entries image))
  counted_here tail now ends short more =
      let parts = entries_of_image image full tail ends short in
      let ss = list_sectors image in
      omega (arith, more, counted, ap (λ l. length (inputs l)) parts, ap length (inputs-append (list_from 1 (take full ss)) tail), length-append (inputs (list_from 1 (take full ss))) (inputs tail))

  -- or behind the last one
  pub ends_last : length (list_sectors image) ≡ full → EndsAt image full []
  ends_last size = record {
    each_full = each_full;
    tail_is = ap (entries_at (full + 1)) (get_or_past (list_sectors image) full [] (omega (arith, size))) ∙ nothing_has_none (full + 1);
    within = omega (arith, size);
  }

-- ---- the list by numbers

-- the first sectors of an image, entry by entry
pub up_to : (n : ℕ) (image : List (List ℕ)) → n ≤ length (list_sectors image) → ((k : ℕ) → k < n → length (entries_at (k + 1) (sector_at (list_sectors image) k)) ≡ 83) → list_from 1 (take n (list_sectors image)) ≡ entries_up_to n image
up_to zero image within full = refl
up_to (suc n) image within full =
    let next : suc n ≡ n + 1 = omega arith in
    let e : 1 + n ≡ suc n = omega arith in
    ap (λ m. list_from 1 (take m (list_sectors image))) next
    ∙ one_more list_packing n 1 (list_sectors image) (omega arith) (λ k le. each_of image (suc n) full k (omega arith))
    ∙ (λ i. up_to n image (omega arith) (λ k le. full k (omega arith)) i ++ entries_at (e i) ((list_sector_in image n (omega arith) ∙ ap (sector_at image) (sym next)) i))

module _ (image : List (List ℕ)) (full : ℕ) (tail : List StoredEntry) (ends : EndsAt image full tail) (short : length tail < 83) where
  pub used_full : tail ≡ [] → entries image ≡ entries_up_to full image
  used_full none = entries_of_image image full tail ends short ∙ ap (λ l. list_from 1 (take full (list_sectors image)) ++ l) none ∙ append-nil (list_from 1 (take full (list_sectors image))) ∙ up_to full image ends.within ends.each_full

  pub used_more : 0 < length tail → entries image ≡ entries_up_to (full + 1) image
  used_more some = go (cases_lt full (length (list_sectors image)))
    where
      go : (full < length (list_sectors image)) ⊎ (length (list_sectors image) ≤ full) → entries image ≡ entries_up_to (full + 1) image
      go (inl less) =
          let next : suc full ≡ full + 1 = omega arith in
          let at : entries_at (suc full) (sector_at image (suc full)) ≡ tail = (λ i. entries_at (next i) (sector_at image (next i))) ∙ ap (entries_at (full + 1)) (sym (list_sector_in image full less)) ∙ ends.tail_is in
          entries_of_image image full tail ends short ∙ (λ i. up_to full image ends.within ends.each_full i ++ sym at i) ∙ ap (λ n. entries_up_to n image) next
      go (inr over) =
          let none : tail ≡ [] = sym ends.tail_is ∙ ap (entries_at (full + 1)) (get_or_past (list_sectors image) full [] over) ∙ nothing_has_none (full + 1) in
          absurd (omega (arith, some, ap length none))
