-- The content of an image depends on its roots and on the area of the chosen one.
use Rattle.std.proofs.Common.{◌≡◌, ◌⊎◌, ⊎_elim, ℕ, ◌+◌, ◌-◌, ◌*◌, ◌/◌, ◌%◌, ◌<◌, ◌≤◌, List, [], length, take, drop, set, if◌then◌else◌, refl, sym, ap, ◌∙◌, arith, length-take, length-drop, length-set, Option, Some, None, nat_le, inl, inr, Bool, true, ◌==◌, false}
use Rattle.std.proofs.lemmas.List.{ext_get_or, get_or-take, get_or-drop, get_or-set_other}
use Rattle.sector_device.specs.DiskState.{sector_at}
use Rattle.sector_device.specs.Runs.{Mixed}
use Rattle.log_format.specs.declared.root.Root.{Root}
use Rattle.log_format.specs.Laws.{AWriteOutsideKeepsTheContent}
use Rattle.log_format.specs.Content.{last_generation, is_valid_root, root_in, newer, chosen, area_length, area_start, area, content_in, content_by, content, blob_sectors, header_of, root_at}
use Rattle.log_format.specs.Log.{log_from}
use Rattle.log_format.specs.declared.root.Version.TheVariants.{Two}
use Rattle.std.proofs.lemmas.Bool.Decides.{nat_tests}
use Rattle.std.specs.List.{flat_map}
use Rattle.std.proofs.lemmas.Bool.{cases_eq}

pub area_same : (g : ℕ) (image c : List (List ℕ)) → length c ≡ length image
    → ((k : ℕ) → area_start g image ≤ k → k < area_start g image + area_length image → sector_at c k ≡ sector_at image k) → area g c ≡ area g image
area_same g image c size same =
    let n = area_length image in
    let m = area_start g image in
    let nn : area_length c ≡ n = ap (λ k. (k - 2) / 2) size in
    let mm : area_start g c ≡ m = ap (λ k. 2 + g % 2 * k) nn in
    let here : take n (drop m c) ≡ take n (drop m image) =
    ext_get_or [] (take n (drop m c)) (take n (drop m image)) (omega (arith, length-take n (drop m c), length-take n (drop m image), length-drop m c, length-drop m image, size))
    (λ i le.
    let below : i < n = omega (arith, length-take n (drop m c)) in
    get_or-take n (drop m c) i [] below ∙ get_or-drop m c i [] ∙ same (m + i) (omega arith) (omega arith) ∙ sym (get_or-take n (drop m image) i [] below ∙ get_or-drop m image i []))
    in (λ i. take (nn i) (drop (mm i) c)) ∙ here

pub chosen_same : (image c : List (List ℕ)) → length c ≡ length image → sector_at c 0 ≡ sector_at image 0 → sector_at c 1 ≡ sector_at image 1 → chosen c ≡ chosen image
chosen_same image c size zeroth first = λ i.
    if nat_le 2 (size i)
    then newer (if is_valid_root 0 (zeroth i) then Some (root_in (zeroth i)) else None) (if is_valid_root 1 (first i) then Some (root_in (first i)) else None)
    else None

-- the area of this generation and the two roots are the same
pub record SameFor (g : ℕ) (image c : List (List ℕ)) : Type 0 where
  pub size : length c ≡ length image
  pub roots : (k : ℕ) → k < 2 → sector_at c k ≡ sector_at image k
  pub sectors : (k : ℕ) → area_start g image ≤ k → k < area_start g image + area_length image → sector_at c k ≡ sector_at image k

by_root : (image c : List (List ℕ)) (r : Option Root) → ((root : Root) → r ≡ Some root → area root.generation c ≡ area root.generation image) → content_by r c ≡ content_by r image
by_root image c None same = refl
by_root image c (Some root) same = ap (λ (l : List (List ℕ)). Some (content_in root l)) (same root refl)

pub same_content : (image c : List (List ℕ)) → length c ≡ length image → ((k : ℕ) → k < 2 → sector_at c k ≡ sector_at image k)
    → ((root : Root) → chosen image ≡ Some root → SameFor root.generation image c) → content c ≡ content image
same_content image c size roots same =
    ap (λ (r : Option Root). content_by r c) (chosen_same image c size (roots 0 (omega arith)) (roots 1 (omega arith)))
    ∙ by_root image c (chosen image) (λ root is. let s = same root is in area_same root.generation image c s.size s.sectors)

-- a write outside the roots and outside the chosen root's area leaves the content
pub write_outside : (image : List (List ℕ)) (at : ℕ) (bytes : List ℕ) → 2 ≤ at
    → ((root : Root) → chosen image ≡ Some root → (at < area_start root.generation image) ⊎ (area_start root.generation image + area_length image ≤ at))
    → content (set image at bytes) ≡ content image
write_outside image at bytes past outside =
    same_content image (set image at bytes) (length-set image at bytes) (λ k le. get_or-set_other image at k bytes [] (λ e. omega arith)) (λ root is. record {
      size = length-set image at bytes;
      roots = λ k le. get_or-set_other image at k bytes [] (λ e. omega arith);
      sectors = λ k from to. get_or-set_other image at k bytes [] (λ e. ⊎_elim (λ below. absurd (omega arith)) (λ above. absurd (omega arith)) (outside root is));
    })

pub outside_kept : AWriteOutsideKeepsTheContent
outside_kept image at bytes past outside =
    (write_outside image at bytes past outside, ap last_generation (chosen_same image (set image at bytes) (length-set image at bytes) (get_or-set_other image at 0 bytes [] (λ e. omega arith)) (get_or-set_other image at 1 bytes [] (λ e. omega arith))))

-- each mixture of two images that have the same roots and the same chosen area has the content of the first
pub mixed_outside : (old new c : List (List ℕ)) → Mixed old new c → ((k : ℕ) → k < 2 → sector_at new k ≡ sector_at old k)
    → ((root : Root) → chosen old ≡ Some root → SameFor root.generation old new) → content c ≡ content old
mixed_outside old new c mixed roots same =
    same_content old c mixed.size (λ k le. ⊎_elim (λ o. o) (λ n. n ∙ roots k le) (mixed.each k)) (λ root is.
    let s = same root is in record {
      size = mixed.size;
      roots = λ k le. ⊎_elim (λ o. o) (λ n. n ∙ roots k le) (mixed.each k);
      sectors = λ k from to. ⊎_elim (λ o. o) (λ n. n ∙ s.sectors k from to) (mixed.each k);
    })

pub few_sectors : (image : List (List ℕ)) → length image < 2 → chosen image ≡ None
few_sectors image few = let fails : nat_le 2 (length image) ≡ false = grind (arith, nat_tests) in ap (λ (t : Bool). if t then newer (root_at 0 image) (root_at 1 image) else None) fails

pub enough_sectors : (image : List (List ℕ)) → 2 ≤ length image → chosen image ≡ newer (root_at 0 image) (root_at 1 image)
enough_sectors image many = let holds : nat_le 2 (length image) ≡ true = grind (arith, nat_tests) in ap (λ (t : Bool). if t then newer (root_at 0 image) (root_at 1 image) else None) holds

pub start_even : (g : ℕ) (image : List (List ℕ)) → g % 2 ≡ 0 → area_start g image ≡ 2
start_even g image even = omega (arith, ap (λ n. 2 + n * area_length image) even)

pub start_odd : (g : ℕ) (image : List (List ℕ)) → g % 2 ≡ 1 → area_start g image ≡ 2 + area_length image
start_odd g image odd = omega (arith, ap (λ n. 2 + n * area_length image) odd)

pub area_size : (image : List (List ℕ)) (g : ℕ) → 2 ≤ length image → length (area g image) ≡ area_length image
area_size image g many = elim (cases_eq (g % 2) 0) [
  | inl even ↦
      let start : area_start g image ≡ 2 = start_even g image even in
      omega (arith, length-take (area_length image) (drop (area_start g image) image), length-drop (area_start g image) image, start)
  | inr other ↦
      let start : area_start g image ≡ 2 + area_length image = start_odd g image (omega (arith, other)) in
      omega (arith, length-take (area_length image) (drop (area_start g image) image), length-drop (area_start g image) image, start)
]

pub body_is : (root : Root) (sectors : List (List ℕ)) → root.version ≡ Two → 32 + blob_sectors root.blob_length ≤ length sectors
    → content_in root sectors ≡ record { header = header_of root; body = Some (record { blob = take root.blob_length (flat_map (λ (s : List ℕ). s) (drop 32 sectors)); log = log_from Two 0 (take 32 sectors) }) }
body_is root sectors two fits =
    let enough : nat_le (32 + blob_sectors root.blob_length) (length sectors) ≡ true = grind (arith, nat_tests) in
    ap (λ (b : Bool). record { header = header_of root; body = if b then Some (record { blob = take root.blob_length (flat_map (λ (s : List ℕ). s) (drop 32 sectors)); log = log_from root.version 0 (take 32 sectors) }) else None }) enough
    ∙ ap (λ v. record { header = header_of root; body = Some (record { blob = take root.blob_length (flat_map (λ (s : List ℕ). s) (drop 32 sectors)); log = log_from v 0 (take 32 sectors) }) }) two
