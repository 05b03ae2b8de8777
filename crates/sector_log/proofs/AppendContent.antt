-- What an image holds in the middle of one append.
use Rattle.std.proofs.Common.{◌≡◌, ◌⊎◌, inl, inr, ⊎_elim, ℕ, ◌+◌, ◌-◌, ◌*◌, ◌/◌, ◌%◌, ◌<◌, ◌≤◌, List, ◌++◌, length, take, drop, true, refl, sym, ap, ◌∙◌, subst, arith, Option, Some}
use Rattle.std.proofs.lemmas.List.{take_at, drop_at, drop_all}
use Rattle.std.proofs.lemmas.Bool.{cases_lt}
use Rattle.std.specs.List.{flat_map}
use Rattle.sector_device.specs.DiskState.{DiskState, Settled, sector_at}
use Rattle.sector_device.specs.Runs.{Mixed, WrittenUpTo}
use Rattle.sector_device.proofs.Runs.{written_all}
use Rattle.input_entries.specs.declared.Entry.{Entry}
use Rattle.input_entries.specs.declared.StoredEntry.{StoredEntry}
use Rattle.input_entries.specs.Inputs.{inputs, all_input, all_entries, AllFive}
use Rattle.input_entries.proofs.CodeLengths.{AreCodes, codes_of_each, entries_of_each}
use Rattle.log_format.specs.Log.{log_sector, log_from, log_area}
use Rattle.log_format.specs.declared.root.Root.{Root}
use Rattle.log_format.specs.declared.root.Version.TheVariants.{Two}
use Rattle.log_format.specs.Content.{chosen, last_generation, generation_in, area_length, area_start, area, header_of, content_by, content, ImageContent}
use Rattle.log_format.specs.Appends.{HoldsPrefix, grown, sealed, fits}
use Rattle.log_format.specs.Inputs.{AreInputs}
use Rattle.log_format.specs.Laws.{IsOpenEnded, IsInAppend}
use Rattle.log_format.proofs.AppendLaw.{read_back, take-past}
use Rattle.log_format.proofs.Areas.{length-log_area, log_area_at}
use Rattle.log_format.proofs.ContentLaw.{chosen_same, body_is, area_size}
use Rattle.log_format.proofs.Grown.{sealed_sector, length-grown, fits_means, whole_grown, inputs_grown, codes_grown}
use Rattle.log_format.proofs.OpenLaw.{in_append}
use Rattle.sector_log.specs.Layout.{replaced}
use Rattle.sector_log.specs.Calls.{ChangesOpenLog, IsAppended}
use Rattle.sector_log.specs.Store.{IsStored, Kept}
use Rattle.sector_log.proofs.Places.{replaced_at, replaced_before, replaced_after, replaced_from, replaced_is, length-replaced, new_log_at}

pub are_inputs : (log : List StoredEntry) → Kept log → AreInputs log
are_inputs log kept = record { each = entries_of_each log kept.entries; few = kept.few }

module _ (old : DiskState) (start : ℕ) (root : Root) (log : List StoredEntry) (rests : IsStored old start root log) where
  abbrev base : List (List ℕ)
  base = old.sectors

  -- with another log
  abbrev target : List StoredEntry → List (List ℕ)
  target entries = replaced start (log_area entries) base

  room_for : (entries : List StoredEntry) → start + length (log_area entries) ≤ length base
  room_for entries = omega (arith, length-log_area entries, rests.within, rests.fits)

  pub size_of : (entries : List StoredEntry) → length (target entries) ≡ length base
  size_of entries = length-replaced start (log_area entries) base (room_for entries)

  areas_of : (entries : List StoredEntry) → area_length (target entries) ≡ area_length base
  areas_of entries = ap (λ n. (n - 2) / 2) (size_of entries)

  outside : (entries : List StoredEntry) (k : ℕ) → (k < start) ⊎ (start + 32 ≤ k) → sector_at (target entries) k ≡ sector_at base k
  outside entries k out = ⊎_elim (replaced_before start (log_area entries) base (room_for entries) k) (λ above. replaced_after start (log_area entries) base (room_for entries) k (omega (arith, length-log_area entries))) out

  in_log : (entries : List StoredEntry) (k : ℕ) → k < 32 → sector_at (target entries) (start + k) ≡ log_sector k (take 84 (drop (84 * k) entries))
  in_log entries k le = new_log_at start k entries base (omega (arith, rests.within, rests.fits)) le

  -- the chosen area begins with the log
  abbrev pub behind : List (List ℕ)
  behind = take (area_length base - 32) (drop (start + 32) base)

  from_start : (entries : List StoredEntry) → drop start (target entries) ≡ log_area entries ++ drop (start + 32) base
  from_start entries = replaced_from start (log_area entries) base (room_for entries) ∙ ap (λ n. log_area entries ++ drop (start + n) base) (length-log_area entries)

  area_of : (entries : List StoredEntry) → area root.generation (target entries) ≡ log_area entries ++ behind
  area_of entries =
      let at : area_start root.generation (target entries) ≡ start = ap (λ n. 2 + root.generation % 2 * n) (areas_of entries) ∙ rests.start_is in
      (λ i. take (areas_of entries i) (drop (at i) (target entries))) ∙ ap (take (area_length base)) (from_start entries)
      ∙ take-past (log_area entries) (drop (start + 32) base) (area_length base) (area_length base - 32) (omega (arith, length-log_area entries, rests.fits))

  log_front : (entries : List StoredEntry) → take 32 (area root.generation (target entries)) ≡ log_area entries
  log_front entries = ap (take 32) (area_of entries) ∙ take_at (log_area entries) behind 32 (length-log_area entries)

  chosen_of : (entries : List StoredEntry) → chosen (target entries) ≡ Some root
  chosen_of entries = chosen_same base (target entries) (size_of entries) (outside entries 0 (inl (omega (arith, rests.start_is)))) (outside entries 1 (inl (omega (arith, rests.start_is)))) ∙ rests.chosen_is

  abbrev whole : List StoredEntry → ImageContent
  whole entries = record { header = header_of root; body = Some (record { blob = take root.blob_length (flat_map (λ (s : List ℕ). s) behind); log = entries }) }

  pub content_of : (entries : List StoredEntry) → AreCodes entries → all_entries entries → length entries ≤ 2688 → content (target entries) ≡ Some (whole entries)
  content_of entries codes are small =
      let sectors = area root.generation (target entries) in
      let long : length sectors ≡ area_length base = area_size (target entries) root.generation (omega (arith, size_of entries, rests.within, rests.fits)) ∙ areas_of entries in
      let blob_part : drop 32 sectors ≡ behind = ap (drop 32) (area_of entries) ∙ drop_at (log_area entries) behind 32 (length-log_area entries) in
      let log_part : log_from Two 0 (take 32 sectors) ≡ entries = ap (log_from Two 0) (log_front entries) ∙ read_back entries codes are small in
      ap (λ (r : Option Root). content_by r (target entries)) (chosen_of entries) ∙ ap Some (body_is root sectors rests.version_is (omega (arith, long, rests.fits)))
      ∙ (λ i. Some (record { header = header_of root; body = Some (record { blob = take root.blob_length (flat_map (λ (s : List ℕ). s) (blob_part i)); log = log_part i }) }))

  stored_with : (entries : List StoredEntry) (now : DiskState) → Settled now → now.sectors ≡ target entries → IsStored now start root entries
  stored_with entries now settled is =
      let size : length now.sectors ≡ length base = ap length is ∙ size_of entries in
      let areas : area_length now.sectors ≡ area_length base = ap (λ n. (n - 2) / 2) size in
      let there : take (length (log_area entries)) (drop start (target entries)) ≡ log_area entries = ap (take (length (log_area entries))) (from_start entries) ∙ take_at (log_area entries) (drop (start + 32) base) (length (log_area entries)) refl in
      record {
        version_is = rests.version_is;
        settled = settled;
        chosen_is = ap chosen is ∙ chosen_of entries;
        start_is = ap (λ n. 2 + root.generation % 2 * n) areas ∙ rests.start_is;
        within = omega (arith, size, areas, rests.within);
        fits = omega (arith, areas, rests.fits);
        log_is = is ∙ replaced_is start (log_area entries) (target entries) there ∙ ap (replaced start (log_area entries)) (sym is);
      }

  module _ (kept : Kept log) where
    codes : AreCodes log
    codes = codes_of_each log kept.six

    pub content_base : content base ≡ Some (whole log)
    content_base = ap content rests.log_is ∙ content_of log codes (are_inputs log kept).each kept.small

    log_base : take 32 (area root.generation base) ≡ log_area log
    log_base = ap (λ b. take 32 (area root.generation b)) rests.log_is ∙ log_front log

    ends_open : IsOpenEnded base root log
    ends_open = record {
      chosen_is = rests.chosen_is;
      version_is = rests.version_is;
      fits = rests.fits;
      ends = record {
        area = ap length log_base ∙ length-log_area log;
        is = ap (log_from Two 0) log_base ∙ read_back log codes (are_inputs log kept).each kept.small;
        blank = λ k from to. ap (λ l. sector_at l k) log_base ∙ log_area_at k log to ∙ ap (λ (l : List StoredEntry). log_sector k (take 84 l)) (drop_all (84 * k) log (omega (arith, from)));
        six = kept.six;
        are = are_inputs log kept;
      };
    }

  -- with more inputs
  module _ (kept : Kept log) (new : List Entry) (fives : AllFive new) (input : all_input new) (fit : fits log new ≡ true) where
    abbrev all : List StoredEntry
    all = grown log new

    few : length (inputs log) + length new ≤ 216000
    few = (fits_means log new fit).1

    room : length all ≤ 2688
    room = (fits_means log new fit).0

    back : (k : ℕ) → start ≤ k → start + (k - start) ≡ k
    back k le = omega arith

    in_base : (k : ℕ) → k < 32 → sector_at base (start + k) ≡ log_sector k (take 84 (drop (84 * k) log))
    in_base k le = ap (λ (l : List (List ℕ)). sector_at l (start + k)) rests.log_is ∙ in_log log k le

    -- the full sectors stay as they are
    pub same_front : (k : ℕ) → k < start + length log / 84 → sector_at base k ≡ sector_at (target all) k
    same_front k le = elim (cases_lt k start) [
      | inl below ↦ sym (outside all k (inl below))
      | inr past_start ↦
          let j = k - start in
          let small : j < 32 = omega (arith, kept.small) in
          let whole_sector : 84 * j + 84 ≤ sealed log = omega arith in
          subst (λ n. sector_at base n ≡ sector_at (target all) n) (back k past_start) (in_base j small ∙ ap (log_sector j) (sealed_sector log new j whole_sector) ∙ sym (in_log all j small))
    ]

    -- and so do the blank ones
    same_back : (end : ℕ) → end ≡ (length all + 83) / 84 → (k : ℕ) → start + end ≤ k → sector_at (target all) k ≡ sector_at base k
    same_back end is k le = elim (cases_lt k (start + 32)) [
      | inl below ↦
          let j = k - start in
          let small : j < 32 = omega arith in
          let past_end : length all ≤ 84 * j = omega arith in
          let past_log : length log ≤ 84 * j = omega (arith, length-grown log new) in
          let none : take 84 (drop (84 * j) all) ≡ take 84 (drop (84 * j) log) = ap (take 84) (drop_all (84 * j) all past_end ∙ sym (drop_all (84 * j) log past_log)) in
          subst (λ n. sector_at (target all) n ≡ sector_at base n) (back k (omega (arith, le))) (in_log all j small ∙ ap (log_sector j) none ∙ sym (in_base j small))
      | inr above ↦ outside all k (inr above)
    ]

    pub all_written : (end : ℕ) → end ≡ (length all + 83) / 84 → (image : List (List ℕ)) → WrittenUpTo base (target all) (start + end) image → image ≡ target all
    all_written end is image written = written_all base (target all) image (start + end) (size_of all) (same_back end is) written

    changes : (c : List (List ℕ)) → Mixed base (target all) c → IsInAppend base root log new c
    changes c mixed = record {
      size = mixed.size;
      each = λ k. ⊎_elim (λ o. inl o)
          (λ n. elim (cases_lt k (start + length log / 84)) [
            | inl below ↦ inl (n ∙ sym (same_front k below))
            | inr past_front ↦ elim (cases_lt k (start + 32)) [
              | inl inside ↦
                  let here : start + (k - start) ≡ k = omega arith in
                  let put : sector_at (target all) k ≡ sector_at (log_area all) (k - start) = ap (sector_at (target all)) (sym here) ∙ replaced_at start (log_area all) base (room_for all) (k - start) (omega (arith, length-log_area all)) in
                  inr (omega (arith, rests.start_is, past_front), omega (arith, rests.start_is, inside), n ∙ put ∙ ap (λ s. sector_at (log_area all) (k - s)) (sym rests.start_is))
              | inr above ↦ inl (n ∙ outside all k (inr above))
            ]
          ])
          (mixed.each k);
    }

    -- any image in the middle of the append
    pub holds_more : (c : List (List ℕ)) → Mixed base (target all) c → HoldsPrefix base new c
    holds_more c mixed = in_append base c root log new (ends_open kept) fives input fit (changes c mixed)

    -- only sectors from that of the log's end on change
    pub changes_open : (c : List (List ℕ)) → Mixed base (target all) c → ChangesOpenLog base (length log) c
    changes_open c mixed =
        let at : area_start (generation_in base) base ≡ area_start root.generation base = ap (λ (r : Option Root). area_start (last_generation r) base) rests.chosen_is in
        record { size = mixed.size; each = λ k. ⊎_elim (λ o. inl o) (λ put. inr (omega (arith, at, put.0), omega (arith, at, put.1))) ((changes c mixed).each k) }

    pub added : (now : DiskState) → Settled now → now.sectors ≡ target all → IsAppended old now new
    added now settled is =
        let w = whole_grown log new (codes kept) fives (are_inputs log kept) input few in
        record {
          settled = settled;
          generation_is = ap generation_in is ∙ ap last_generation (chosen_of all ∙ sym rests.chosen_is);
          adds = record {
            header = header_of root;
            blob = take root.blob_length (flat_map (λ (s : List ℕ). s) behind);
            before = log;
            after = all;
            old_is = content_base kept;
            new_is = ap content is ∙ content_of all (codes_grown log new (codes kept) fives (are_inputs log kept) input few) w.each room;
            are = inputs_grown log new (codes kept) fives (are_inputs log kept) input few;
            adds = w.stand;
          };
        }

    pub rests_after : (now : DiskState) → Settled now → now.sectors ≡ target all → IsStored now start root all
    rests_after = stored_with all
