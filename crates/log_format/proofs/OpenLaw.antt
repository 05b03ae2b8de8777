-- After any of the writes of one append, over log sectors of which only what they are read as is known.
use Rattle.std.proofs.Common.{◌≡◌, ◌⊎◌, inl, inr, ⊎_elim, ℕ, zero, suc, ◌+◌, ◌-◌, ◌*◌, ◌/◌, ◌%◌, ◌<◌, ◌≤◌, List, [], ◌∷◌, ◌++◌, length, take, drop, Bool, true, if◌then◌else◌, refl, sym, ap, ◌∙◌, subst, arith, length-append, length-take, length-drop, Option, Some, None}
use Rattle.std.proofs.lemmas.List.{ext_get_or, get_or-take, get_or-drop, length-take-le, drop-drop, take_at, drop_at}
use Rattle.std.proofs.lemmas.Bool.{cases_Bool, cases_lt}
use Rattle.std.proofs.lemmas.Bool.Decides.{nat_tests}
use Rattle.sector_device.specs.DiskState.{sector_at}
use Rattle.log_format.specs.Log.{is_log_sector, count_in, entries_from, entries_at, log_from, log_sector, log_area}
use Rattle.input_entries.specs.Inputs.{AllFive, inputs, all_input, all_entries}
use Rattle.input_entries.specs.Growing.{with_inputs}
use Rattle.log_format.specs.Appends.{grown, fits, HoldsPrefix}
use Rattle.log_format.specs.Content.{chosen, last_generation, header_of, area, area_length, area_start, content_by}
use Rattle.log_format.specs.Laws.{EndsOpen, AnyWritten, ExtendsBy, IsOpenEnded, IsInAppend}
use Rattle.log_format.specs.declared.root.Root.{Root}
use Rattle.log_format.proofs.Areas.{log_area_at}
use Rattle.log_format.proofs.ContentLaw.{chosen_same, body_is, few_sectors, area_size}
use Rattle.std.specs.List.{flat_map}
use Rattle.input_entries.specs.declared.Entry.{Entry}
use Rattle.input_entries.specs.declared.StoredEntry.{StoredEntry}
use Rattle.log_format.specs.declared.root.Version.TheVariants.{Two}
use Rattle.input_entries.proofs.CodeLengths.{AreCodes, codes-drop, codes_of_each}
use Rattle.input_entries.proofs.Sectors.{Ends, split, parts, any_put, inputs_behind}
use Rattle.log_format.proofs.AppendLaw.{log_packing}
use Rattle.log_format.proofs.Grown.{fits_means, length-grown}
use Rattle.log_format.proofs.Parsing.{length-entries_from}
use Rattle.input_entries.proofs.Runs.{entries-append, entries-take, entries-drop}

few_entries : (index : ℕ) (s : List ℕ) → length (entries_at Two index s) ≤ 84
few_entries index s = elim (cases_Bool (is_log_sector Two index s)) [
  | inl valid ↦
      let few : count_in s ≤ 84 = grind (arith, nat_tests) in
      omega (arith, ap (λ (t : Bool). length (if t then entries_from Two (count_in s) (drop 8 s) else [])) valid, length-entries_from Two (count_in s) (drop 8 s), few)
  | inr fails ↦ omega (arith, ap (λ (t : Bool). length (if t then entries_from Two (count_in s) (drop 8 s) else [])) fails)
]

-- where the log of these sectors ends
record EndsSomewhere (index : ℕ) (sectors : List (List ℕ)) : Type 0 where
  pub full : ℕ
  pub tail : List StoredEntry
  pub ends : Ends log_packing index sectors full tail

ends_somewhere : (sectors : List (List ℕ)) (index : ℕ) → EndsSomewhere index sectors
ends_somewhere [] index = record { full = 0; tail = []; ends = record { each = λ k le. absurd (omega arith); tail_is = refl; within = omega arith; short = omega arith } }
ends_somewhere (s ∷ sectors) index =
    let here : index + 0 ≡ index = omega arith in
    elim (cases_lt (length (entries_at Two index s)) 84) [
      | inl short ↦ record { full = 0; tail = entries_at Two index s; ends = record { each = λ k le. absurd (omega arith); tail_is = ap (λ n. entries_at Two n s) here; within = omega arith; short = short } }
      | inr enough ↦
          let r = ends_somewhere sectors (suc index) in
          let next : index + suc r.full ≡ suc index + r.full = omega arith in
          record {
            full = suc r.full;
            tail = r.tail;
            ends = record {
              each = more r.full r.ends.each (ap (λ n. length (entries_at Two n s)) here ∙ omega (arith, enough, few_entries index s));
              tail_is = ap (λ n. entries_at Two n (sector_at sectors r.full)) next ∙ r.ends.tail_is;
              within = omega (arith, r.ends.within);
              short = r.ends.short;
            };
          }
    ]
  where
    more : (full : ℕ) → ((k : ℕ) → k < full → length (entries_at Two (suc index + k) (sector_at sectors k)) ≡ 84) → length (entries_at Two (index + 0) s) ≡ 84
        → (k : ℕ) → k < suc full → length (entries_at Two (index + k) (sector_at (s ∷ sectors) k)) ≡ 84
    more full later first zero le = first
    more full later first (suc k) le = (let e : index + suc k ≡ suc index + k = omega arith in ap (λ n. length (entries_at Two n (sector_at sectors k))) e) ∙ later k (omega arith)

pub any_written : (olds now : List (List ℕ)) (log : List StoredEntry) (more : List Entry) → EndsOpen olds log → AllFive more → all_input more → fits log more ≡ true → AnyWritten olds log more now → ExtendsBy log more (log_from Two 0 now)
unfolding grown
any_written olds now log more ends fives input fit written =
    let means = fits_means log more fit in
    let e = ends_somewhere olds 0 in
    let full = e.full in
    let tail = e.tail in
    let n = 84 * full in
    let front = log_from Two 0 (take full olds) in
    let size : length front ≡ n = (split log_packing full 0 olds e.ends.within e.ends.each).1 in
    let log_is : log ≡ front ++ tail = sym ends.is ∙ parts log_packing e.ends in
    let full_is : length log / 84 ≡ full = omega (arith, ap length log_is, length-append front tail, size, e.ends.short) in
    let front_is : take n log ≡ front = ap (take n) log_is ∙ take_at front tail n size in
    let tail_is : drop n log ≡ tail = ap (drop n) log_is ∙ drop_at front tail n size in
    let grown_is : grown log more ≡ front ++ with_inputs tail more = (λ i. take (84 * full_is i) log ++ with_inputs (drop (84 * full_is i) log) more) ∙ (λ i. front_is i ++ with_inputs (tail_is i) more) in
    let c = any_put log_packing 0 full olds now tail more e.ends (omega (arith, ends.area)) (subst AreCodes tail_is (codes-drop n log (codes_of_each log ends.six))) (subst all_entries tail_is (entries-drop n log ends.are.each)) fives input
    (written.size ∙ sym ends.area) (λ k le. written.full k (omega (arith, le, full_is)))
    (λ k le. ⊎_elim (λ o. inl o) (λ put. inr (put ∙ new_at full k (grown log more) front (with_inputs tail more) grown_is size (omega (arith, le, ends.area)))) (written.each (full + k) (omega (arith, full_is)) (omega (arith, le, ends.area))))
    (λ k some le. ap (entries_at Two (0 + full + k)) (ends.blank (full + k) (omega (arith, some, full_is)) (omega (arith, le, ends.area)))) in
    let extends = inputs_behind front tail c.cut log (log_from Two 0 now) (take c.holds.count more) log_is c.is c.holds.stand in
    record {
      count = c.holds.count;
      within = c.holds.within;
      are = record {
        each = subst all_entries (sym c.is) (entries-append front c.cut (subst all_entries front_is (entries-take n log ends.are.each)) c.holds.each);
        few = omega (arith, means.1, ap length extends, length-append (inputs log) (take c.holds.count more), length-take c.holds.count more);
      };
      extends = extends;
    }
  where
    new_at : (full k : ℕ) (all front list : List StoredEntry) → all ≡ front ++ list → length front ≡ 84 * full → full + k < 32 → sector_at (log_area all) (full + k) ≡ log_sector (0 + full + k) (take 84 (drop (84 * k) list))
    new_at full k all front list is size small =
        let index : full + k ≡ 0 + full + k = omega arith in
        let m : 84 * (full + k) ≡ 84 * full + 84 * k = omega arith in
        log_area_at (full + k) all small
        ∙ (λ i. log_sector (index i) (take 84 (drop (m i) (is i))))
        ∙ ap (λ (l : List StoredEntry). log_sector (0 + full + k) (take 84 l)) (sym (drop-drop (84 * k) (84 * full) (front ++ list)) ∙ ap (drop (84 * k)) (drop_at front list (84 * full) size))

-- ---- the same of a whole image

module _ (old now : List (List ℕ)) (root : Root) (log : List StoredEntry) (more : List Entry) (opened : IsOpenEnded old root log) (fives : AllFive more) (input : all_input more) (fit : fits log more ≡ true) (changed : IsInAppend old root log more now) where
  two_sectors : 2 ≤ length old
  two_sectors = elim (cases_lt (length old) 2) [
    | inl few ↦ let none : None ≡ Some root = sym (few_sectors old few) ∙ opened.chosen_is in absurd (cc)
    | inr many ↦ many
  ]

  -- the chosen area of an image of this size
  in_area : (image : List (List ℕ)) → length image ≡ length old
      → (length (area root.generation image) ≡ area_length old) × ((k : ℕ) → k < area_length old → sector_at (area root.generation image) k ≡ sector_at image (area_start root.generation old + k))
  in_area image size =
      let areas : area_length image ≡ area_length old = ap (λ n. (n - 2) / 2) size in
      let starts : area_start root.generation image ≡ area_start root.generation old = ap (λ n. 2 + root.generation % 2 * n) areas in (
        area_size image root.generation (omega (arith, two_sectors, size)) ∙ areas,
        λ k le. get_or-take (area_length image) (drop (area_start root.generation image) image) k [] (omega (arith, areas, le)) ∙ get_or-drop (area_start root.generation image) image k [] ∙ ap (λ n. sector_at image (n + k)) starts,
      )

  long : 32 ≤ area_length old
  long = omega (arith, opened.fits)

  outside : (k : ℕ) → (k < area_start root.generation old + length log / 84) ⊎ (area_start root.generation old + 32 ≤ k) → sector_at now k ≡ sector_at old k
  outside k where_is = ⊎_elim (λ same. same) (λ put. let from = put.0 in let to = put.1 in ⊎_elim (λ below. absurd (omega (arith, from, below))) (λ above. absurd (omega (arith, to, above))) where_is) (changed.each k)

  chosen_now : chosen now ≡ Some root
  chosen_now = chosen_same old now changed.size (outside 0 (inl (omega arith))) (outside 1 (inl (omega arith))) ∙ opened.chosen_is

  log_now : ExtendsBy log more (log_from Two 0 (take 32 (area root.generation now)))
  log_now =
      any_written (take 32 (area root.generation old)) (take 32 (area root.generation now)) log more opened.ends fives input fit (record {
        size = length-take-le 32 (area root.generation now) (omega (arith, (in_area now changed.size).0, long));
        full = λ k le.
            let small : k < 32 = omega (arith, le, fits_means log more fit, length-grown log more) in
            get_or-take 32 (area root.generation now) k [] small ∙ (in_area now changed.size).1 k (omega (arith, small, long)) ∙ outside (area_start root.generation old + k) (inl (omega (arith, le)))
            ∙ sym (get_or-take 32 (area root.generation old) k [] small ∙ (in_area old refl).1 k (omega (arith, small, long)));
        each = λ k from small.
            let here = get_or-take 32 (area root.generation now) k [] small ∙ (in_area now changed.size).1 k (omega (arith, small, long)) in
            let there = get_or-take 32 (area root.generation old) k [] small ∙ (in_area old refl).1 k (omega (arith, small, long)) in
            let back : area_start root.generation old + k - area_start root.generation old ≡ k = omega arith in
            ⊎_elim (λ same. inl (here ∙ same ∙ sym there)) (λ put. inr (here ∙ put.2 ∙ ap (sector_at (log_area (grown log more))) back)) (changed.each (area_start root.generation old + k));
      })

  blob_same : drop 32 (area root.generation now) ≡ drop 32 (area root.generation old)
  blob_same =
      ext_get_or [] (drop 32 (area root.generation now)) (drop 32 (area root.generation old))
      (omega (arith, length-drop 32 (area root.generation now), length-drop 32 (area root.generation old), (in_area now changed.size).0, (in_area old refl).0))
      (λ k le.
      let inside : 32 + k < area_length old = omega (arith, length-drop 32 (area root.generation now), (in_area now changed.size).0, le) in
      get_or-drop 32 (area root.generation now) k [] ∙ (in_area now changed.size).1 (32 + k) inside ∙ outside (area_start root.generation old + (32 + k)) (inr (omega arith))
      ∙ sym (get_or-drop 32 (area root.generation old) k [] ∙ (in_area old refl).1 (32 + k) inside))

  abbrev blob : List ℕ
  blob = take root.blob_length (flat_map (λ (s : List ℕ). s) (drop 32 (area root.generation old)))

  pub in_append : HoldsPrefix old more now
  in_append =
      let l = log_now in
      record {
        count = l.count;
        within = l.within;
        adds = record {
          header = header_of root;
          blob = blob;
          before = log;
          after = log_from Two 0 (take 32 (area root.generation now));
          old_is = ap (λ (r : Option Root). content_by r old) opened.chosen_is
              ∙ ap Some (body_is root (area root.generation old) opened.version_is (omega (arith, (in_area old refl).0, opened.fits)))
              ∙ ap (λ (x : List StoredEntry). Some (record { header = header_of root; body = Some (record { blob = blob; log = x }) })) opened.ends.is;
          new_is = ap (λ (r : Option Root). content_by r now) chosen_now
              ∙ ap Some (body_is root (area root.generation now) opened.version_is (omega (arith, (in_area now changed.size).0, opened.fits)))
              ∙ ap (λ (x : List (List ℕ)). Some (record { header = header_of root; body = Some (record { blob = take root.blob_length (flat_map (λ (s : List ℕ). s) x); log = log_from Two 0 (take 32 (area root.generation now)) }) })) blob_same;
          are = l.are;
          adds = l.extends;
        };
        generation_is = ap last_generation (chosen_now ∙ sym opened.chosen_is);
      }
