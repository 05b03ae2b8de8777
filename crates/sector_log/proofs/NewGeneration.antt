-- What an image holds while a new generation is written.
use Rattle.std.proofs.Common.{◌≡◌, ◌≢◌, ◌⊎◌, inl, inr, ⊎_elim, ℕ, zero, suc, ◌+◌, ◌-◌, ◌*◌, ◌/◌, ◌%◌, ◌<◌, ◌≤◌, List, [], ◌++◌, length, take, drop, set, Bool, true, false, if◌then◌else◌, refl, sym, ap, ◌∙◌, subst, arith, append_assoc, length-drop, length-set, Option, Some, None, nat_le, nat_lt, Result}
use Rattle.std.proofs.lemmas.Bool.{cases_lt, cases_eq}
use Rattle.std.proofs.lemmas.Bool.Decides.{nat_tests}
use Rattle.std.proofs.lemmas.List.{get_or-set_same, get_or-set_other, length-take-le, append-nil, nil_from_length, take_all, take_at, drop_at, take-take, drop-take, drop-set-lt, take-append-drop}
use lib.ListN.{replicate}
use Rattle.std.specs.List.{flat_map}
use Rattle.sector_device.specs.DiskState.{DiskState, Settled, Throughout, Remembers, sector_at}
use Rattle.sector_device.specs.Runs.{HoldsThroughout, HoldsSince, Mixed}
use Rattle.sector_device.specs.DiskState.{HasSynced, HasWritten}
use Rattle.sector_device.proofs.Runs.{throughout_weaker, goes_on, has_synced, holds_since, since_settled}
use Rattle.log_format.specs.declared.root.Version.TheVariants.{Two}
use Rattle.log_format.specs.declared.root.Root.{Root}
use Rattle.log_format.specs.Log.{log_from, log_area, padded, blob_area, fresh_area}
use Rattle.sector_log.specs.Layout.{replaced}
use Rattle.log_format.specs.Content.{root_bytes, root_in, is_valid_root, root_at, newer, chosen, last_generation, generation_in, area_length, area_start, area, content, content_by, new_generation, Holds}
use Rattle.sector_log.specs.Calls.{HasOldOrNewContent, HasBegun}
use Rattle.sector_log.specs.Store.{IsStored, IsNextGeneration}
use Rattle.log_format.specs.Widths.{Fits}
use Rattle.log_format.proofs.AppendLaw.{read_back, take-past}
use Rattle.log_format.proofs.ContentLaw.{start_even, start_odd, area_size, body_is, mixed_outside, chosen_same}
use Rattle.sector_log.proofs.Places.{length-replaced, replaced_before, replaced_after, replaced_from, replaced_is}
use Rattle.log_format.proofs.Areas.{length-fresh_area, length-log_area, length-blob_area}
use Rattle.log_format.proofs.Roots.{root_written}

first : (root b : Root) → b.generation ≤ root.generation → newer (Some root) (Some b) ≡ Some root
first root b le = let no : nat_lt root.generation b.generation ≡ false = grind (arith, nat_tests) in ap (λ (t : Bool). if t then Some b else Some root) no

second : (root a : Root) → a.generation < root.generation → newer (Some a) (Some root) ≡ Some root
second root a lt = let yes : nat_lt a.generation root.generation ≡ true = grind (arith, nat_tests) in ap (λ (t : Bool). if t then Some root else Some a) yes

-- a root that follows wins over what stands in the other slot
wins : (root : Root) (a b : Option Root) → ((r : Root) → newer a b ≡ Some r → root.generation ≡ r.generation + 1) → (newer (Some root) b ≡ Some root) × (newer a (Some root) ≡ Some root)
wins root None None follows = (refl, refl)
wins root None (Some b) follows = let e = follows b refl in (first root b (omega arith), refl)
wins root (Some a) None follows = let e = follows a refl in (refl, second root a (omega arith))
wins root (Some a) (Some b) follows = elim (cases_lt a.generation b.generation) [
  | inl lt ↦ let yes : nat_lt a.generation b.generation ≡ true = grind (arith, nat_tests) in let e = follows b (ap (λ (t : Bool). if t then Some b else Some a) yes) in (first root b (omega arith), second root a (omega arith))
  | inr ge ↦ let no : nat_lt a.generation b.generation ≡ false = grind (arith, nat_tests) in let e = follows a (ap (λ (t : Bool). if t then Some b else Some a) no) in (first root b (omega arith), second root a (omega arith))
]

blob_front : (n : ℕ) (blob : List ℕ) (rest : List (List ℕ)) → length blob ≤ 512 * n → take (length blob) (flat_map (λ (s : List ℕ). s) (blob_area n blob ++ rest)) ≡ blob
blob_front zero blob rest few =
    let none : length blob ≡ 0 = omega arith in
    ap (λ n. take n (flat_map (λ (s : List ℕ). s) rest)) none ∙ sym (nil_from_length blob none)
blob_front (suc n) blob rest few =
    let bytes : List ℕ = flat_map (λ (s : List ℕ). s) (blob_area n (drop 512 blob) ++ rest) in
    elim (cases_lt (length blob) 512) [
      | inl short ↦
          ap (λ (l : List ℕ). take (length blob) (padded l ++ bytes)) (take_all 512 blob (omega arith))
          ∙ ap (take (length blob)) (append_assoc blob (replicate (512 - length blob) 0) bytes)
          ∙ take_at blob (replicate (512 - length blob) 0 ++ bytes) (length blob) refl
      | inr full ↦
          let size : length (take 512 blob) ≡ 512 = length-take-le 512 blob full in
          let no_pad : 512 - length (take 512 blob) ≡ 0 = omega (arith, size) in
          let plain : padded (take 512 blob) ≡ take 512 blob = ap (λ n. take 512 blob ++ replicate n 0) no_pad ∙ append-nil (take 512 blob) in
          ap (λ (l : List ℕ). take (length blob) (l ++ bytes)) plain
          ∙ take-past (take 512 blob) bytes (length blob) (length (drop 512 blob)) (omega (arith, size, length-drop 512 blob))
          ∙ ap (λ (l : List ℕ). take 512 blob ++ l) (blob_front n (drop 512 blob) rest (omega (arith, length-drop 512 blob))) ∙ take-append-drop 512 blob
    ]

module _ (base : List (List ℕ)) (start : ℕ) (root : Root) (blob : List ℕ) (next : IsNextGeneration base start root blob) where
  abbrev pub filled : List (List ℕ)
  filled = replaced start (fresh_area blob) base

  abbrev pub rooted : List (List ℕ)
  rooted = set filled (root.generation % 2) (root_bytes root)

  past : 2 ≤ start
  past = omega (arith, next.start_is)

  many : length (fresh_area blob) ≤ area_length base
  many = let same : (root.blob_length + 511) / 512 ≡ (length blob + 511) / 512 = ap (λ n. (n + 511) / 512) next.blob_is in omega (arith, length-fresh_area blob, next.fits, same)

  room : start + length (fresh_area blob) ≤ length base
  room = omega (arith, many, next.within)

  size : length filled ≡ length base
  size = length-replaced start (fresh_area blob) base room

  outside : (k : ℕ) → (k < start) ⊎ (start + length (fresh_area blob) ≤ k) → sector_at filled k ≡ sector_at base k
  outside k out = ⊎_elim (replaced_before start (fresh_area blob) base room k) (replaced_after start (fresh_area blob) base room k) out

  -- while the area is filled
  pub still_old : (c : List (List ℕ)) → Mixed base filled c → Holds (generation_in base) (content base) c
  still_old c mixed = record {
    content_is = mixed_outside base filled c mixed (λ k le. outside k (inl (omega (arith, past)))) (λ r is. record {
      size = size;
      roots = λ k le. outside k (inl (omega (arith, past)));
      sectors = λ k from to. outside k (⊎_elim (λ below. inl (omega (arith, below, to))) (λ above. inr (omega (arith, above, from, many))) (next.other r is));
    });
    generation_is = ap last_generation (chosen_same base c mixed.size (slot 0 (omega arith)) (slot 1 (omega arith)));
  }
    where
      slot : (k : ℕ) → k < 2 → sector_at c k ≡ sector_at base k
      slot k le = ⊎_elim (λ o. o) (λ n. n ∙ outside k (inl (omega (arith, past)))) (mixed.each k)

  rooted_size : length rooted ≡ length base
  rooted_size = length-set filled (root.generation % 2) (root_bytes root) ∙ size

  slot_small : root.generation % 2 < 2
  slot_small = omega arith

  slot_here : sector_at rooted (root.generation % 2) ≡ root_bytes root
  slot_here = get_or-set_same filled (root.generation % 2) (root_bytes root) [] (omega (arith, size, next.two, slot_small))

  slot_there : (k : ℕ) → k < 2 → k ≢ root.generation % 2 → root_at k rooted ≡ root_at k base
  slot_there k le other = ap (λ (s : List ℕ). if is_valid_root k s then Some (root_in s) else None) (get_or-set_other filled (root.generation % 2) k (root_bytes root) [] other ∙ outside k (inl (omega (arith, past))))

  follows_newer : (r : Root) → newer (root_at 0 base) (root_at 1 base) ≡ Some r → root.generation ≡ r.generation + 1
  follows_newer r is =
      let yes : nat_le 2 (length base) ≡ true = let h = next.two in grind (arith, nat_tests) in
      next.follows ∙ ap (λ (o : Option Root). last_generation o + 1) (ap (λ (t : Bool). if t then newer (root_at 0 base) (root_at 1 base) else None) yes ∙ is)

  roots_now : newer (root_at 0 rooted) (root_at 1 rooted) ≡ Some root
  roots_now = elim (cases_eq (root.generation % 2) 0) [
    | inl zeroth ↦
        let mine : root_at 0 rooted ≡ Some root = root_written root next.version_is next.root_fits rooted 0 (sym zeroth) (ap (sector_at rooted) (sym zeroth) ∙ slot_here) in
        let other : root_at 1 rooted ≡ root_at 1 base = slot_there 1 (omega arith) (λ e. omega (arith, zeroth)) in
        (λ i. newer (mine i) (other i)) ∙ (wins root (root_at 0 base) (root_at 1 base) follows_newer).0
    | inr not_zeroth ↦
        let first : root.generation % 2 ≡ 1 = omega (arith, slot_small, not_zeroth) in
        let mine : root_at 1 rooted ≡ Some root = root_written root next.version_is next.root_fits rooted 1 (sym first) (ap (sector_at rooted) (sym first) ∙ slot_here) in
        let other : root_at 0 rooted ≡ root_at 0 base = slot_there 0 (omega arith) (λ e. omega (arith, first)) in
        (λ i. newer (other i) (mine i)) ∙ (wins root (root_at 0 base) (root_at 1 base) follows_newer).1
  ]

  pub chosen_now : chosen rooted ≡ Some root
  chosen_now =
      let yes : nat_le 2 (length rooted) ≡ true = let h = next.two in let e = rooted_size in grind (arith, nat_tests) in
      ap (λ (t : Bool). if t then newer (root_at 0 rooted) (root_at 1 rooted) else None) yes ∙ roots_now

  -- the area of the new root
  areas : area_length rooted ≡ area_length base
  areas = ap (λ n. (n - 2) / 2) rooted_size

  abbrev blob_count : ℕ
  blob_count = (length blob + 511) / 512

  abbrev rest : List (List ℕ)
  rest = drop (start + length (fresh_area blob)) base

  log_then : drop start rooted ≡ log_area [] ++ (blob_area blob_count blob ++ rest)
  unfolding fresh_area
  log_then = drop-set-lt start filled (root.generation % 2) (root_bytes root) (omega (arith, past, slot_small)) ∙ replaced_from start (fresh_area blob) base room ∙ append_assoc (log_area []) (blob_area blob_count blob) rest

  area_now : area root.generation rooted ≡ take (area_length base) (drop start rooted)
  area_now = let at : area_start root.generation rooted ≡ start = ap (λ n. 2 + root.generation % 2 * n) areas ∙ next.start_is in (λ i. take (areas i) (drop (at i) rooted))

  log_now : log_from Two 0 (take 32 (area root.generation rooted)) ≡ []
  log_now =
      ap (λ (l : List (List ℕ)). log_from Two 0 (take 32 l)) area_now
      ∙ ap (log_from Two 0) (take-take 32 (area_length base) (drop start rooted) (omega (arith, next.fits)) ∙ ap (take 32) log_then ∙ take_at (log_area []) (blob_area blob_count blob ++ rest) 32 (length-log_area []))
      ∙ read_back [] tt tt (omega arith)

  blob_now : take root.blob_length (flat_map (λ (s : List ℕ). s) (drop 32 (area root.generation rooted))) ≡ blob
  blob_now =
      let n = area_length base - 32 in
      let long : area_length base ≡ 32 + n = omega (arith, next.fits) in
      let sectors : drop 32 (area root.generation rooted) ≡ blob_area blob_count blob ++ take (n - blob_count) rest =
      ap (drop 32) area_now ∙ ap (λ m. drop 32 (take m (drop start rooted))) long ∙ drop-take 32 n (drop start rooted)
      ∙ ap (take n) (ap (drop 32) log_then ∙ drop_at (log_area []) (blob_area blob_count blob ++ rest) 32 (length-log_area []))
      ∙ take-past (blob_area blob_count blob) rest n (n - blob_count) (omega (arith, length-blob_area blob_count blob, many, length-fresh_area blob)) in
      ap (λ m. take m (flat_map (λ (s : List ℕ). s) (drop 32 (area root.generation rooted)))) next.blob_is
      ∙ ap (λ (l : List (List ℕ)). take (length blob) (flat_map (λ (s : List ℕ). s) l)) sectors
      ∙ blob_front blob_count blob (take (n - blob_count) rest) (omega arith)

  fresh_now : content rooted ≡ Some (new_generation root.id root.base blob)
  fresh_now =
      ap (λ (r : Option Root). content_by r rooted) chosen_now
      ∙ ap Some (body_is root (area root.generation rooted) next.version_is (omega (arith, area_size rooted root.generation (omega (arith, rooted_size, next.two)), areas, next.fits)))
      ∙ (λ i. Some (record { header = record { id = root.id; base = root.base; blob_length = next.blob_is i }; body = Some (record { blob = blob_now i; log = log_now i }) }))

  pub rests_now : (now : DiskState) → Settled now → now.sectors ≡ rooted → IsStored now start root []
  rests_now now settled is =
      let size_now : length now.sectors ≡ length base = ap length is ∙ rooted_size in
      let areas_now : area_length now.sectors ≡ area_length base = ap (λ n. (n - 2) / 2) size_now in
      record {
        version_is = next.version_is;
        settled = settled;
        chosen_is = ap chosen is ∙ chosen_now;
        start_is = ap (λ n. 2 + root.generation % 2 * n) areas_now ∙ next.start_is;
        within = omega (arith, size_now, areas_now, next.within);
        fits = omega (arith, areas_now, next.fits);
        log_is = is ∙ replaced_is start (log_area []) rooted (ap (take (length (log_area []))) log_then ∙ take_at (log_area []) (blob_area blob_count blob ++ rest) (length (log_area [])) refl) ∙ ap (replaced start (log_area [])) (sym is);
      }

  holds_new : Holds (generation_in base + 1) (Some (new_generation root.id root.base blob)) rooted
  holds_new = record { content_is = fresh_now; generation_is = ap last_generation chosen_now ∙ next.follows }

  pub begun_now : (old now : DiskState) → old.sectors ≡ base → Settled now → now.sectors ≡ rooted → HasBegun old now root.id root.base blob
  begun_now old now was settled is = record {
    settled = settled;
    holds = record { content_is = ap content is ∙ fresh_now; generation_is = ap generation_in is ∙ holds_new.generation_is ∙ ap (λ (l : List (List ℕ)). generation_in l + 1) (sym was) };
  }

  -- a mixture of the filled image alone, or with the root
  pub old_or_new_content : (c : List (List ℕ)) → (c ≡ filled) ⊎ (c ≡ rooted) → HasOldOrNewContent base root.id root.base blob c
  old_or_new_content c which = ⊎_elim (λ f. inl (subst (Holds (generation_in base) (content base)) (sym f) (still_old filled filled_mixed))) (λ r. inr (subst (Holds (generation_in base + 1) (Some (new_generation root.id root.base blob))) (sym r) holds_new)) which
    where
      filled_mixed : Mixed base filled filled
      filled_mixed = record { size = size; each = λ k. inr refl }

  -- the calls, over the states of the device between them
  module _ (old full synced : DiskState) (base_is : old.sectors ≡ base) (is_full : full.sectors ≡ filled) where
    pub after_sync : {E : Type 0} {r : Result Unit E} → HoldsThroughout old full (Mixed base filled) (Mixed base filled) → HasSynced full synced r → Settled synced → HoldsThroughout old synced (HasOldOrNewContent base root.id root.base blob) (λ c. c ≡ filled)
    after_sync held sync settled =
        let on = has_synced held sync in
        record {
          honest = on.honest;
          throughout = throughout_weaker on.throughout (λ c mixed. inl (still_old c mixed));
          images = λ c now. settled c now ∙ sync.sectors ∙ is_full;
          entails = λ c is. old_or_new_content c (inl is);
          past = on.past;
        }

  pub after_root : {E : Type 0} {r : Result Unit E} {old synced new : DiskState} (bytes : List ℕ) → bytes ≡ root_bytes root → HoldsThroughout old synced (HasOldOrNewContent base root.id root.base blob) (λ c. c ≡ filled) → HasWritten (root.generation % 2) bytes synced new r
      → HoldsThroughout old new (HasOldOrNewContent base root.id root.base blob) (λ c. (c ≡ filled) ⊎ (c ≡ rooted))
  after_root bytes same held wrote =
      goes_on held wrote.goes
      (λ c now. let from = wrote.images c now in let was = held.images from.0 from.1 in
      ⊎_elim (λ e. inl (e ∙ was)) (λ put. inr (put ∙ (λ i. set (was i) (root.generation % 2) (same i)))) from.2)
      (λ c which. old_or_new_content c which)

-- the root that `begin` makes follows the chosen one
module _ (base : List (List ℕ)) (start last : ℕ) (root : Root) (blob : List ℕ) where
  pub is_next : last ≡ generation_in base → root.generation ≡ last + 1 → ((root.generation % 2 ≡ 0) × (start ≡ 2)) ⊎ ((root.generation % 2 ≡ 1) × (start ≡ 2 + area_length base))
      → 2 + 2 * (32 + (length blob + 511) / 512) ≤ length base → root.blob_length ≡ length blob → Fits root → root.version ≡ Two → IsNextGeneration base start root blob
  is_next was grown slot room blob_is whole version = record {
    start_is = ⊎_elim (λ e. start_even root.generation base e.0 ∙ sym e.1) (λ o. start_odd root.generation base o.0 ∙ sym o.1) slot;
    follows = omega (arith, was, grown);
    within = ⊎_elim (λ e. let s = e.1 in omega (arith, room)) (λ o. let s = o.1 in omega (arith, room)) slot;
    other = λ r is. ⊎_elim
        (λ e. let odd : r.generation % 2 ≡ 1 = omega (arith, was_of r is, grown, e.0) in let s = start_odd r.generation base odd in let t = e.1 in inr (omega (arith, s, t)))
        (λ o. let even : r.generation % 2 ≡ 0 = omega (arith, was_of r is, grown, o.0) in let s = start_even r.generation base even in let t = o.1 in inl (omega (arith, s, t))) slot;
    fits = let same : (root.blob_length + 511) / 512 ≡ (length blob + 511) / 512 = ap (λ n. (n + 511) / 512) blob_is in omega (arith, same, room);
    blob_is = blob_is;
    root_fits = whole;
    version_is = version;
    two = omega (arith, room);
  }
    where
      was_of : (r : Root) → chosen base ≡ Some r → last ≡ r.generation
      was_of r is = was ∙ ap last_generation is

-- each image since the start, where one image was left there
module _ (old : DiskState) (id : List ℕ) (number : ℕ) (blob : List ℕ) (only : (c : List (List ℕ)) → old.since old.moment c → old.image c) (settled : Settled old) where
  pub since_old_or_new : (new : DiskState) → Throughout old new (HasOldOrNewContent old.sectors id number blob) → Remembers old new → HoldsSince old new (HasOldOrNewContent old.sectors id number blob)
  since_old_or_new new time past = holds_since only time past (λ c now. inl (subst (Holds (generation_in old.sectors) (content old.sectors)) (sym (settled c now)) (record { content_is = refl; generation_is = refl })))

  pub since_nothing : HoldsSince old old (HasOldOrNewContent old.sectors id number blob)
  since_nothing = since_settled only settled (inl (record { content_is = refl; generation_is = refl }))
