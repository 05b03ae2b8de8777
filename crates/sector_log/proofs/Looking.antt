-- Calls that only look, and what they find.
use Rattle.std.proofs.Common.{◌≡◌, inl, inr, ℕ, suc, ◌+◌, ◌-◌, ◌*◌, ◌<◌, ◌≤◌, ◌==◌, ◌++◌, List, [], ◌∷◌, length, take, drop, get_or, min, Bool, true, false, if◌then◌else◌, nat_le, Option, Some, None, refl, sym, ap, ◌∙◌, arith, append_assoc, length-take, length-drop}
use Rattle.std.proofs.lemmas.List.{drop-take, take-take, get_or-take, get_or-drop, drop_all, append-nil, length-take-le, take-append-le, take_all, drop-drop}
use Rattle.log_format.proofs.AppendLaw.{take-past}
use Rattle.std.proofs.Math.Seq.{drop-cons}
use Rattle.std.proofs.lemmas.Bool.{cases_lt}
use Rattle.std.proofs.lemmas.Bool.Decides.{nat_tests}
use Rattle.std.specs.List.{flat_map}
use Rattle.sector_device.specs.DiskState.{DiskState, Settled, sector_at}
use Rattle.log_format.specs.Log.{entries_of_full_sector, entries_at, log_from}
use Rattle.log_format.specs.Content.{Body, chosen, area_length, area_start, area, blob_sectors, content, content_by, content_in}
use Rattle.log_format.specs.Found.{log_of, log_in, is_too_small, no_body, blob_by, blob_in}
use Rattle.sector_device.specs.Looking.{LooksOnly}
use Rattle.sector_log.specs.Reading.{IsFound}
use Rattle.input_entries.specs.declared.StoredEntry.{StoredEntry}
use Rattle.log_format.specs.declared.root.Root.{Root}
use Rattle.log_format.specs.declared.root.Version.{Version}
use Rattle.sector_device.proofs.Looking.{settled_looked}
use Rattle.log_format.proofs.ContentLaw.{area_size}

-- the next sector of an area
pub area_next : (sectors : List (List ℕ)) (start index : ℕ) → index < 32 → start + 32 ≤ length sectors
    → drop index (take 32 (drop start sectors)) ≡ sector_at sectors (start + index) ∷ drop (suc index) (take 32 (drop start sectors))
area_next sectors start index less room =
    let all = take 32 (drop start sectors) in
    let size : length all ≡ 32 = length-take-le 32 (drop start sectors) (omega (arith, length-drop start sectors)) in
    let here : get_or all index [] ≡ sector_at sectors (start + index) = get_or-take 32 (drop start sectors) index [] less ∙ get_or-drop start sectors index [] in
    drop-cons all index [] (omega (arith, size)) ∙ ap (λ s. s ∷ drop (suc index) all) here

pub area_end : (sectors : List (List ℕ)) (start index : ℕ) → 32 ≤ index → drop index (take 32 (drop start sectors)) ≡ []
area_end sectors start index past = drop_all index (take 32 (drop start sectors)) (omega (arith, length-take 32 (drop start sectors)))

pub log_next : (v : Version) (sectors : List (List ℕ)) (start index : ℕ) (s : List ℕ) → index < 32 → start + 32 ≤ length sectors → s ≡ sector_at sectors (start + index)
    → log_from v index (drop index (take 32 (drop start sectors))) ≡ entries_at v index s ++ (if length (entries_at v index s) == entries_of_full_sector v then log_from v (suc index) (drop (suc index) (take 32 (drop start sectors))) else [])
log_next v sectors start index s less room is = ap (log_from v index) (area_next sectors start index less room ∙ ap (λ x. x ∷ drop (suc index) (take 32 (drop start sectors))) (sym is))

-- no root
pub nothing_chosen : (now : DiskState) → Settled now → chosen now.sectors ≡ None → IsFound now None false []
nothing_chosen now settled none = record {
  settled = settled;
  chosen_is = none;
  too_small_is = ap (λ (r : Option Root). is_too_small (content_by r now.sectors)) none;
  log_is = ap (λ (r : Option Root). log_of (content_by r now.sectors)) none;
}

-- the blob does not fit
pub found_short : (now : DiskState) (root : Root) → Settled now → 2 ≤ length now.sectors → chosen now.sectors ≡ Some root → area_length now.sectors < 32 + blob_sectors root.blob_length → IsFound now (Some root) true []
found_short now root settled many is few =
    let all = area root.generation now.sectors in
    let fails : nat_le (32 + blob_sectors root.blob_length) (length all) ≡ false = let e = area_size now.sectors root.generation many in grind (arith, nat_tests) in
    let none : (content_in root all).body ≡ None = ap (λ (t : Bool). if t then Some (record { blob = take root.blob_length (flat_map (λ (s : List ℕ). s) (drop 32 all)); log = log_from root.version 0 (take 32 all) }) else None) fails in
    record {
      settled = settled;
      chosen_is = is;
      too_small_is = ap (λ (r : Option Root). is_too_small (content_by r now.sectors)) is ∙ ap no_body none;
      log_is = ap (λ (r : Option Root). log_of (content_by r now.sectors)) is ∙ ap log_in none;
    }

-- the blob fits, and this is the log
pub found_log : (now : DiskState) (root : Root) (start : ℕ) (log : List StoredEntry) → Settled now → 2 ≤ length now.sectors → chosen now.sectors ≡ Some root → 32 + blob_sectors root.blob_length ≤ area_length now.sectors
    → start ≡ area_start root.generation now.sectors → log_from root.version 0 (take 32 (drop start now.sectors)) ≡ log → IsFound now (Some root) false log
found_log now root start log settled many is enough at log_is =
    let all = area root.generation now.sectors in
    let holds : nat_le (32 + blob_sectors root.blob_length) (length all) ≡ true = let e = area_size now.sectors root.generation many in grind (arith, nat_tests) in
    let some : (content_in root all).body ≡ Some (record { blob = take root.blob_length (flat_map (λ (s : List ℕ). s) (drop 32 all)); log = log_from root.version 0 (take 32 all) }) =
    ap (λ (t : Bool). if t then Some (record { blob = take root.blob_length (flat_map (λ (s : List ℕ). s) (drop 32 all)); log = log_from root.version 0 (take 32 all) }) else None) holds in
    let front : take 32 all ≡ take 32 (drop start now.sectors) = take-take 32 (area_length now.sectors) (drop (area_start root.generation now.sectors) now.sectors) (omega (arith, enough)) ∙ ap (λ n. take 32 (drop n now.sectors)) (sym at) in
    record {
      settled = settled;
      chosen_is = is;
      too_small_is = ap (λ (r : Option Root). is_too_small (content_by r now.sectors)) is ∙ ap no_body some;
      log_is = ap (λ (r : Option Root). log_of (content_by r now.sectors)) is ∙ ap log_in some ∙ ap (log_from root.version 0) front ∙ log_is;
    }

module _ (v : Version) (sectors : List (List ℕ)) (start index : ℕ) (s : List ℕ) (less : index < 32) (room : start + 32 ≤ length sectors) (is : s ≡ sector_at sectors (start + index))
    (whole items new : List StoredEntry) (so_far : whole ≡ items ++ log_from v index (drop index (take 32 (drop start sectors)))) (read : new ≡ items ++ entries_at v index s) where
  later : List StoredEntry
  later = log_from v (suc index) (drop (suc index) (take 32 (drop start sectors)))

  pub log_stops : (length (entries_at v index s) == entries_of_full_sector v) ≡ false → whole ≡ new
  unfolding later
  log_stops fails =
      so_far ∙ ap (λ (l : List StoredEntry). items ++ l) (log_next v sectors start index s less room is ∙ ap (λ (t : Bool). entries_at v index s ++ (if t then later else [])) fails ∙ append-nil (entries_at v index s)) ∙ sym read

  pub log_goes : (length (entries_at v index s) == entries_of_full_sector v) ≡ true → whole ≡ new ++ log_from v (index + 1) (drop (index + 1) (take 32 (drop start sectors)))
  unfolding later
  log_goes holds =
      let next : suc index ≡ index + 1 = omega arith in
      so_far ∙ ap (λ (l : List StoredEntry). items ++ l) (log_next v sectors start index s less room is ∙ ap (λ (t : Bool). entries_at v index s ++ (if t then later else [])) holds)
      ∙ sym (append_assoc items (entries_at v index s) later) ∙ ap (λ (l : List StoredEntry). l ++ later) (sym read)
      ∙ ap (λ n. new ++ log_from v n (drop n (take 32 (drop start sectors)))) next

pub log_ends : (v : Version) (sectors : List (List ℕ)) (start index : ℕ) (whole items : List StoredEntry) → 32 ≤ index → whole ≡ items ++ log_from v index (drop index (take 32 (drop start sectors))) → whole ≡ items
log_ends v sectors start index whole items past so_far = so_far ∙ ap (λ l. items ++ log_from v index l) (area_end sectors start index past) ∙ append-nil items

take_split : (m : ℕ) (s r : List ℕ) → length s ≡ 512 → take m (s ++ r) ≡ take (min m 512) s ++ take (m - 512) r
take_split m s r size = elim (cases_lt m 512) [
  | inl short ↦
      let part : min m 512 ≡ m = omega arith in
      let none : m - 512 ≡ 0 = omega arith in
      take-append-le m s r (omega arith) ∙ sym (append-nil (take m s)) ∙ (λ i. take (sym part i) s ++ take (sym none i) r)
  | inr long ↦
      let part : min m 512 ≡ 512 = omega arith in
      take-past s r m (m - 512) (omega arith) ∙ ap (λ (l : List ℕ). l ++ take (m - 512) r) (sym (take_all 512 s (omega arith)) ∙ ap (λ n. take n s) (sym part))
]

pub blob_next : (sectors : List (List ℕ)) (start room index size part : ℕ) (s : List ℕ) → index < room → start + room ≤ length sectors → s ≡ sector_at sectors (start + index) → length s ≡ 512 → part ≡ min (size - 512 * index) 512
    → take (size - 512 * index) (flat_map (λ (x : List ℕ). x) (drop index (take room (drop start sectors)))) ≡ take part s ++ take (size - 512 * (index + 1)) (flat_map (λ (x : List ℕ). x) (drop (index + 1) (take room (drop start sectors))))
blob_next sectors start room index size part s less fits is long part_is =
    let all = take room (drop start sectors) in
    let whole : length all ≡ room = length-take-le room (drop start sectors) (omega (arith, length-drop start sectors)) in
    let here : get_or all index [] ≡ s = get_or-take room (drop start sectors) index [] less ∙ get_or-drop start sectors index [] ∙ sym is in
    let next : suc index ≡ index + 1 = omega arith in
    let left : size - 512 * index - 512 ≡ size - 512 * (index + 1) = omega arith in
    ap (λ l. take (size - 512 * index) (flat_map (λ (x : List ℕ). x) l)) (drop-cons all index [] (omega (arith, whole)) ∙ (λ i. here i ∷ drop (next i) all))
    ∙ take_split (size - 512 * index) s (flat_map (λ (x : List ℕ). x) (drop (index + 1) all)) long
    ∙ (λ i. take (sym part_is i) s ++ take (left i) (flat_map (λ (x : List ℕ). x) (drop (index + 1) all)))

long_by : (most size : ℕ) → nat_le size most ≡ false → (body : Option Body) → blob_by most size body ≡ None
long_by most size fails None = refl
long_by most size fails (Some body) = ap (λ (t : Bool). if t then Some body.blob else None) fails

-- the blob of the chosen root
module _ (now : List (List ℕ)) (root : Root) (most : ℕ) (is : chosen now ≡ Some root) where
  here : content now ≡ content_by (Some root) now
  here = ap (λ (r : Option Root). content_by r now) is

  pub blob_long : most < root.blob_length → blob_in most (content now) ≡ None
  blob_long long = ap (blob_in most) here ∙ long_by most root.blob_length (grind (arith, nat_tests)) (content_in root (area root.generation now)).body

  pub blob_short : 2 ≤ length now → area_length now < 32 + blob_sectors root.blob_length → blob_in most (content now) ≡ None
  blob_short many few =
      let all = area root.generation now in
      let fails : nat_le (32 + blob_sectors root.blob_length) (length all) ≡ false = let e = area_size now root.generation many in grind (arith, nat_tests) in
      let found : Body = record { blob = take root.blob_length (flat_map (λ (s : List ℕ). s) (drop 32 all)); log = log_from root.version 0 (take 32 all) } in
      ap (blob_in most) here ∙ ap (λ (t : Bool). blob_by most root.blob_length (if t then Some found else None)) fails

  pub blob_read : (start room : ℕ) (blob : List ℕ) → 2 ≤ length now → root.blob_length ≤ most → area_length now ≡ 32 + room → 32 + blob_sectors root.blob_length ≤ area_length now → start ≡ area_start root.generation now + 32
      → take root.blob_length (flat_map (λ (s : List ℕ). s) (take room (drop start now))) ≡ blob → blob_in most (content now) ≡ Some blob
  blob_read start room blob many short size enough at blob_is =
      let all = area root.generation now in
      let holds : nat_le (32 + blob_sectors root.blob_length) (length all) ≡ true = let e = area_size now root.generation many in grind (arith, nat_tests) in
      let few : nat_le root.blob_length most ≡ true = grind (arith, nat_tests) in
      let part : drop 32 all ≡ take room (drop start now) =
      ap (λ n. drop 32 (take n (drop (area_start root.generation now) now))) size ∙ drop-take 32 room (drop (area_start root.generation now) now)
      ∙ ap (take room) (drop-drop 32 (area_start root.generation now) now ∙ ap (λ n. drop n now) (sym at)) in
      ap (blob_in most) here
      ∙ ap (λ (t : Bool). blob_by most root.blob_length (if t then Some (record { blob = take root.blob_length (flat_map (λ (s : List ℕ). s) (drop 32 all)); log = log_from root.version 0 (take 32 all) }) else None)) holds
      ∙ ap (λ (t : Bool). if t then Some (take root.blob_length (flat_map (λ (s : List ℕ). s) (drop 32 all))) else None) few
      ∙ ap (λ (l : List (List ℕ)). Some (take root.blob_length (flat_map (λ (s : List ℕ). s) l))) part ∙ ap Some blob_is

pub found_looked : {a b : DiskState} (root : Option Root) (short : Bool) (log : List StoredEntry) → IsFound a root short log → LooksOnly a b → IsFound b root short log
found_looked root short log f l = record {
  settled = settled_looked f.settled l;
  chosen_is = ap chosen l.sectors ∙ f.chosen_is;
  too_small_is = ap (λ s. is_too_small (content s)) l.sectors ∙ f.too_small_is;
  log_is = ap (λ s. log_of (content s)) l.sectors ∙ f.log_is;
}
