-- The steps of one append, over the disk of the device.
use Rattle.std.proofs.Common.{◌≡◌, ◌⊎◌, inl, inr, ⊎_elim, ℕ, ◌+◌, ◌-◌, ◌*◌, ◌<◌, ◌≤◌, List, [], ◌++◌, length, take, drop, Bool, true, if◌then◌else◌, Some, None, refl, sym, ap, ◌∙◌, subst, arith, length-append, length-take, length-drop}
use Rattle.std.proofs.lemmas.List.{take_all, drop_at, length-take-le, nil_from_length, get_or_past}
use Rattle.std.proofs.lemmas.Bool.{cases_lt}
use Rattle.std.proofs.lemmas.Bool.Decides.{nat_tests}
use Rattle.sector_device.specs.DiskState.{DiskState, Settled, sector_at}
use Rattle.sector_device.specs.Runs.{HoldsThroughout, HoldsSince, Mixed}
use Rattle.sector_device.proofs.Runs.{throughout_weaker, throughout_then, remembers_then, holds_since, since_mixed, mixed_old}
use Rattle.input_entries.specs.Inputs.{AllFive, all_input, inputs, all_entries}
use Rattle.input_entries.specs.declared.Entry.{Entry}
use Rattle.input_entries.specs.declared.StoredEntry.{StoredEntry}
use Rattle.input_entries.proofs.CodeLengths.{AreCodes, codes-take, codes-drop, codes_of_each, entries_of_each}
use Rattle.input_entries.proofs.Runs.{inputs-append, entries-take, entries-drop}
use Rattle.recording.specs.Calls.{HoldsPrefix, KeepsFull, IsAppended, with_more}
use Rattle.recording.specs.Format.{is_head_of, entries_at, list_sector}
use Rattle.input_entries.specs.Growing.{with_inputs}
use Rattle.recording.specs.Growing.{fits}
use Rattle.recording.specs.Keeping.{EndsAt, BlankFrom, blanked, grown_image, HasPacked, Kept, IsStored}
use Rattle.recording.specs.Recorded.{entries, recorded}
use Rattle.recording.specs.Sizes.{list_sectors, list_sectors_in, sectors_for}
use Rattle.input_entries.proofs.MoreInputs.{whole, codes-with_inputs}
use Rattle.recording.proofs.Images.{most_is, recorded_more, same_tail, holds_none, holds_all, holds_prefix, length-blanked, blanked_before, blanked_after, length-grown, grown_before, grown_after, grown_past, list_sector_in, length-list_sectors}
use Rattle.recording.proofs.ListBytes.{chunk, entries_written, blank_has_none, nothing_has_none, few_inputs_of}

pub fits_means : (tail : List StoredEntry) (sectors : ℕ) (more : List Entry) → fits tail sectors more ≡ true → length (with_inputs tail more) ≤ 83 * sectors
unfolding fits
fits_means tail sectors more is = grind (arith, nat_tests)

-- ---- the numbers that are kept, whatever the device

pub no_overflow : (n full : ℕ) (tail : List StoredEntry) (count : ℕ) → Kept n full tail count → count < 18446744073709551616
no_overflow n full tail count kept = omega (arith, kept.placed, kept.counted, kept.short, few_inputs_of tail, most_is)

module _ (n full : ℕ) (tail : List StoredEntry) (count : ℕ) (more : List Entry) (kept : Kept n full tail count) (fives : AllFive more) (input : all_input more) (room : length (with_inputs tail more) ≤ 83 * (list_sectors_in n - full))
    (full' : ℕ) (tail' : List StoredEntry) (packed : HasPacked full (with_inputs tail more) full' tail') where
  abbrev grown_list : List StoredEntry
  grown_list = with_inputs tail more

  pub size_after : length grown_list ≡ 83 * (full' - full) + length tail'
  size_after = omega (arith, ap length packed.is, length-append (take (83 * (full' - full)) grown_list) tail', length-take-le (83 * (full' - full)) grown_list packed.within)

  pub placed_after : full' + sectors_for (length tail') ≤ list_sectors_in n
  placed_after = omega (arith, size_after, room, packed.short, packed.later, kept.placed)

  pub kept_after : Kept n full' tail' (count + length more)
  kept_after =
      let front = take (83 * (full' - full)) grown_list in
      let few : length (inputs tail) + length more ≤ 17928000 * (full' - full) + length (inputs tail') =
      omega (arith, ap length (whole tail more (entries_of_each tail kept.good.entry) fives input).stand, length-append (inputs tail) more, ap (λ l. length (inputs l)) packed.is, ap length (inputs-append front tail'), length-append (inputs front) (inputs tail'), few_inputs_of front, length-take-le (83 * (full' - full)) grown_list packed.within) in
      record {
        placed = placed_after;
        some = kept.some;
        short = packed.short;
        good = packed.good;
        counted = omega (arith, kept.counted, few, packed.later);
      }

module _ (old : DiskState) (full : ℕ) (tail : List StoredEntry) (count : ℕ) (blank_after : Bool) (more : List Entry) (stored : IsStored old full tail count blank_after) (kept : Kept (length old.sectors) full tail count)
    (fives : AllFive more) (input : all_input more) (room : length (with_inputs tail more) ≤ 83 * (list_sectors_in (length old.sectors) - full)) where
  abbrev from : ℕ
  from = 1 + full + sectors_for (length tail)

  abbrev cleared : List (List ℕ)
  cleared = blanked from old.sectors

  abbrev list : List StoredEntry
  list = with_inputs tail more

  abbrev grown : List (List ℕ)
  grown = grown_image full list cleared

  codes : AreCodes tail
  codes = codes_of_each tail kept.good.six

  are : all_entries tail
  are = entries_of_each tail kept.good.entry

  pub from_in : from ≤ length old.sectors
  from_in = omega (arith, kept.placed, kept.some)

  size_cleared : length cleared ≡ length old.sectors
  size_cleared = length-blanked from old.sectors from_in

  in_cleared : full + 1 ≤ length cleared
  in_cleared = omega (arith, size_cleared, kept.placed, kept.some)

  -- ---- the sectors after the list become blank

  same_mixed : (c : List (List ℕ)) → Mixed old.sectors cleared c → (k : ℕ) → k ≤ full → sector_at c k ≡ sector_at old.sectors k
  same_mixed c mixed k le = ⊎_elim (λ o. o) (λ n. n ∙ blanked_before from old.sectors k from_in (omega arith)) (mixed.each k)

  tail_mixed : (c : List (List ℕ)) → Mixed old.sectors cleared c → entries_at (full + 1) (sector_at (list_sectors c) full) ≡ tail
  tail_mixed c mixed = go (cases_lt full (length (list_sectors c)))
    where
      sizes : length (list_sectors c) ≡ length (list_sectors old.sectors)
      sizes = length-list_sectors c ∙ ap list_sectors_in mixed.size ∙ sym (length-list_sectors old.sectors)

      go : (full < length (list_sectors c)) ⊎ (length (list_sectors c) ≤ full) → entries_at (full + 1) (sector_at (list_sectors c) full) ≡ tail
      go (inr over) =
          ap (entries_at (full + 1)) (get_or_past (list_sectors c) full [] over ∙ sym (get_or_past (list_sectors old.sectors) full [] (omega (arith, over, sizes)))) ∙ stored.ends.tail_is
      go (inl less) = ap (entries_at (full + 1)) (list_sector_in c full less) ∙ ⊎_elim
          (λ o. ap (entries_at (full + 1)) (o ∙ sym (list_sector_in old.sectors full (omega (arith, less, sizes)))) ∙ stored.ends.tail_is)
          (λ n. elim (cases_lt (full + 1) from) [
            | inl below ↦ ap (entries_at (full + 1)) (n ∙ blanked_before from old.sectors (full + 1) from_in below ∙ sym (list_sector_in old.sectors full (omega (arith, less, sizes)))) ∙ stored.ends.tail_is
            | inr above ↦
                let none : tail ≡ [] = nil_from_length tail (omega (arith, above)) in
                let inside : full + 1 < length old.sectors = omega (arith, less, sizes, length-list_sectors old.sectors) in
                ap (entries_at (full + 1)) (n ∙ blanked_after from old.sectors (full + 1) above inside) ∙ blank_has_none (full + 1) ∙ sym none
          ])
          (mixed.each (full + 1))

  entries_mixed : (c : List (List ℕ)) → Mixed old.sectors cleared c → entries c ≡ entries old.sectors
  entries_mixed c mixed = same_tail old.sectors c full tail more stored.ends kept.short codes are fives input kept.some mixed.size (same_mixed c mixed) (tail_mixed c mixed)

  prefix_mixed : (c : List (List ℕ)) → Mixed old.sectors cleared c → HoldsPrefix old.sectors more c
  prefix_mixed c mixed = holds_none old.sectors c full tail more stored.ends kept.short codes are fives input kept.some mixed.size (same_mixed c mixed) (entries_mixed c mixed)

  keeps_mixed : (c : List (List ℕ)) → Mixed old.sectors cleared c → KeepsFull old.sectors full c
  keeps_mixed c mixed = record { size = mixed.size; each = same_mixed c mixed }

  -- ---- then the inputs are written

  mixed_cleared : Mixed old.sectors cleared cleared
  mixed_cleared = record { size = size_cleared; each = λ k. inr refl }

  ends_cleared : EndsAt cleared full tail
  ends_cleared = record {
    each_full = λ k le.
        let sizes : length (list_sectors cleared) ≡ length (list_sectors old.sectors) = length-list_sectors cleared ∙ ap list_sectors_in size_cleared ∙ sym (length-list_sectors old.sectors) in
        let within = stored.ends.within in
        ap (λ s. length (entries_at (k + 1) s)) (list_sector_in cleared k (omega (arith, sizes, within)) ∙ same_mixed cleared mixed_cleared (k + 1) (omega arith) ∙ sym (list_sector_in old.sectors k (omega (arith, within)))) ∙ stored.ends.each_full k le;
    tail_is = tail_mixed cleared mixed_cleared;
    within = omega (arith, stored.ends.within, length-list_sectors cleared, length-list_sectors old.sectors, size_cleared);
  }

  pub blank_cleared : BlankFrom cleared from
  blank_cleared k le less = blanked_after from old.sectors k le (omega (arith, less, size_cleared))

  same_recorded : (id : List ℕ) → recorded id cleared ≡ recorded id old.sectors
  unfolding recorded
  same_recorded id = λ i. if is_head_of id (same_mixed cleared mixed_cleared 0 (omega arith) i) then Some (inputs (entries_mixed cleared mixed_cleared i)) else None

  same_written : (c : List (List ℕ)) → Mixed cleared grown c → (k : ℕ) → k ≤ full → sector_at c k ≡ sector_at cleared k
  same_written c mixed k le = ⊎_elim (λ o. o) (λ n. n ∙ grown_before full list cleared in_cleared k le) (mixed.each k)

  prefix_written : (c : List (List ℕ)) → Mixed cleared grown c → HoldsPrefix old.sectors more c
  prefix_written c mixed =
      let held = holds_prefix cleared c full tail more ends_cleared kept.short codes are fives input (omega (arith, size_cleared, kept.some)) mixed.size (same_written c mixed)
      (λ k le. ⊎_elim (λ o. inl o) (λ n. inr (n ∙ grown_after full list cleared in_cleared k le)) (mixed.each (full + 1 + k))) blank_cleared in
      record { count = held.count; within = held.within; adds = λ id. held.adds id ∙ ap (with_more (take held.count more)) (same_recorded id) }

  keeps_written : (c : List (List ℕ)) → Mixed cleared grown c → KeepsFull old.sectors full c
  keeps_written c mixed = record { size = mixed.size ∙ size_cleared; each = λ k le. same_written c mixed k le ∙ same_mixed cleared mixed_cleared k le }

  -- ---- and the sync is done

  mixed_grown : Mixed cleared grown grown
  mixed_grown = record { size = length-grown full list cleared in_cleared; each = λ k. inr refl }

  inputs_grown : inputs (entries grown) ≡ inputs (entries old.sectors) ++ more
  inputs_grown =
      holds_all cleared grown full tail more ends_cleared kept.short codes are fives input (omega (arith, size_cleared, kept.some)) mixed_grown.size (same_written grown mixed_grown)
      (λ k le. grown_after full list cleared in_cleared k le) (omega (arith, room, ap list_sectors_in size_cleared))
      ∙ ap (λ l. inputs l ++ more) (entries_mixed cleared mixed_cleared)

  pub appended : (now : DiskState) → Settled now → now.sectors ≡ grown → IsAppended old now more
  appended now settled is = record {
    settled = settled;
    adds = λ id. ap (recorded id) is ∙ recorded_more old.sectors grown more id (same_written grown mixed_grown 0 (omega arith) ∙ same_mixed cleared mixed_cleared 0 (omega arith)) inputs_grown;
  }

  -- ---- the calls, by what they promise; the first blank sector is n
  module _ (mid : DiskState) (n : ℕ) (n_is : n ≡ from) (moments : HoldsThroughout old mid (Mixed old.sectors (blanked n old.sectors)) (Mixed old.sectors (blanked n old.sectors)))
      (only : (c : List (List ℕ)) → old.since old.moment c → old.image c) where
    held : HoldsThroughout old mid (Mixed old.sectors cleared) (Mixed old.sectors cleared)
    held = subst (λ m. HoldsThroughout old mid (Mixed old.sectors (blanked m old.sectors)) (Mixed old.sectors (blanked m old.sectors))) n_is moments

    pub clearing : HoldsSince old mid (HoldsPrefix old.sectors more) × HoldsSince old mid (KeepsFull old.sectors full)
    clearing = (since_mixed cleared only stored.settled held prefix_mixed, since_mixed cleared only stored.settled held keeps_mixed)

    module _ (now : DiskState) (clears : (blank_after ≡ true → BlankFrom old.sectors n) → Settled mid × (mid.sectors ≡ blanked n old.sectors))
        (writes : mid.honest → Settled mid → HoldsThroughout mid now (Mixed mid.sectors (grown_image full list mid.sectors)) (Mixed mid.sectors (grown_image full list mid.sectors))) where
      rest : Settled mid × (mid.sectors ≡ cleared)
      rest = let r = clears (λ is. subst (BlankFrom old.sectors) (sym n_is) (stored.blank is)) in (r.0, r.1 ∙ ap (λ m. blanked m old.sectors) n_is)

      wrote : HoldsThroughout mid now (Mixed cleared grown) (Mixed cleared grown)
      wrote = subst (λ s. HoldsThroughout mid now (Mixed s (grown_image full list s)) (Mixed s (grown_image full list s))) rest.1 (writes held.honest rest.0)

      both : {P : List (List ℕ) → Type 0} → ((c : List (List ℕ)) → Mixed old.sectors cleared c → P c) → ((c : List (List ℕ)) → Mixed cleared grown c → P c) → HoldsSince old now P
      both first second =
          holds_since only (throughout_then (throughout_weaker held.throughout first) (throughout_weaker wrote.throughout second)) (remembers_then old mid now held.throughout held.past wrote.past)
          (λ c i. first c (subst (Mixed old.sectors cleared) (sym (stored.settled c i)) (mixed_old old.sectors cleared)))

      pub writing : HoldsSince old now (HoldsPrefix old.sectors more) × HoldsSince old now (KeepsFull old.sectors full)
      writing = (both prefix_mixed prefix_written, both keeps_mixed keeps_written)

      -- once they all succeeded
      pub written : (mid.honest → Settled mid → BlankFrom mid.sectors from → Settled now × (now.sectors ≡ grown_image full list mid.sectors)) → Settled now × (now.sectors ≡ grown)
      written synced =
          let r = synced held.honest rest.0 (subst (λ s. BlankFrom s from) (sym rest.1) blank_cleared) in
          (r.0, r.1 ∙ ap (grown_image full list) rest.1)

  -- what is kept then
  module _ (full' : ℕ) (tail' : List StoredEntry) (packed : HasPacked full list full' tail') where
    at_end : drop (83 * (full' - full)) list ≡ tail'
    at_end = ap (drop (83 * (full' - full))) packed.is ∙ drop_at (take (83 * (full' - full)) list) tail' (83 * (full' - full)) (length-take-le (83 * (full' - full)) list packed.within)

    size_list : length list ≡ 83 * (full' - full) + length tail'
    size_list = size_after (length old.sectors) full tail count more kept fives input room full' tail' packed

    sectors : length (list_sectors grown) ≡ list_sectors_in (length old.sectors)
    sectors = length-list_sectors grown ∙ ap list_sectors_in (mixed_grown.size ∙ size_cleared)

    placed' : full' + sectors_for (length tail') ≤ list_sectors_in (length old.sectors)
    placed' = placed_after (length old.sectors) full tail count more kept fives input room full' tail' packed

    -- the sector of the list with this index, after the full ones of before
    new_at : (k : ℕ) → full ≤ k → k < length (list_sectors grown) → sector_at (list_sectors grown) k ≡ list_sector (k + 1) (chunk (k - full) list)
    new_at k le less =
        let e : k + 1 ≡ full + 1 + (k - full) = omega arith in
        let inside : full + 1 + (k - full) < length cleared = omega (arith, less, sectors, size_cleared) in
        list_sector_in grown k less ∙ ap (sector_at grown) e ∙ grown_after full list cleared in_cleared (k - full) inside ∙ ap (λ n. list_sector n (chunk (k - full) list)) (sym e)

    read_new : (k : ℕ) → full ≤ k → k < length (list_sectors grown) → entries_at (k + 1) (sector_at (list_sectors grown) k) ≡ chunk (k - full) list
    read_new k le less =
        let rest = drop (83 * (k - full)) list in
        ap (entries_at (k + 1)) (new_at k le less)
        ∙ entries_written (k + 1) (chunk (k - full) list) (omega (arith, less, sectors, most_is)) (omega (arith, length-take 83 rest))
        (codes-take 83 rest (codes-drop (83 * (k - full)) list (codes-with_inputs tail more codes fives))) (entries-take 83 rest (entries-drop (83 * (k - full)) list (whole tail more are fives input).each))

    pub ends' : EndsAt grown full' tail'
    ends' = record {
      each_full = λ k le. elim (cases_lt k full) [
        | inl below ↦ ap (λ s. length (entries_at (k + 1) s)) (list_sector_in grown k (omega (arith, sectors, placed', le)) ∙ same_written grown mixed_grown (k + 1) (omega arith) ∙ sym (list_sector_in cleared k (omega (arith, ends_cleared.within)))) ∙ ends_cleared.each_full k below
        | inr above ↦ ap length (read_new k above (omega (arith, sectors, placed', le))) ∙ omega (arith, length-take 83 (drop (83 * (k - full)) list), length-drop (83 * (k - full)) list, size_list, le, above)
      ];
      tail_is = last (cases_lt full' (length (list_sectors grown)));
      within = omega (arith, sectors, placed');
    }
      where
        last : (full' < length (list_sectors grown)) ⊎ (length (list_sectors grown) ≤ full') → entries_at (full' + 1) (sector_at (list_sectors grown) full') ≡ tail'
        last (inl less) = read_new full' packed.later less ∙ ap (take 83) at_end ∙ take_all 83 tail' (omega (arith, packed.short))
        last (inr over) =
            let none : length tail' ≡ 0 = omega (arith, over, sectors, placed') in
            ap (entries_at (full' + 1)) (get_or_past (list_sectors grown) full' [] over) ∙ nothing_has_none (full' + 1) ∙ sym (nil_from_length tail' none)

    blank' : BlankFrom grown (1 + full' + sectors_for (length tail'))
    blank' k le less = grown_past full list cleared in_cleared k (omega (arith, le, packed.later)) (omega (arith, size_list, le, packed.later, packed.short)) (omega (arith, less, mixed_grown.size))

    pub stored' : (now : DiskState) → Settled now → now.sectors ≡ grown → IsStored now full' tail' (count + length more) true
    stored' now settled is = record {
      settled = settled;
      ends = subst (λ s. EndsAt s full' tail') (sym is) ends';
      counted = omega (arith, stored.counted, ap (λ s. length (inputs (entries s))) is, ap length inputs_grown, length-append (inputs (entries old.sectors)) more);
      blank = λ _. subst (λ s. BlankFrom s (1 + full' + sectors_for (length tail'))) (sym is) blank';
    }
