-- Laws of what is found.
use Rattle.std.proofs.Common.{◌≡◌, ◌&&◌, inl, inr, ℕ, ◌+◌, ◌*◌, ◌<◌, ◌≤◌, suc, List, [], ◌∷◌, length, take, drop, Bool, true, if◌then◌else◌, nat_le, Option, Some, None, refl, sym, ap, ◌∙◌, arith, length-append, length-take, length-drop}
use Rattle.std.specs.List.{All, flat_map}
use Rattle.std.proofs.lemmas.List.Elements.{All-head, All-tail, All-take, All-drop, All-from_get_or}
use Rattle.std.proofs.lemmas.List.{get_or-take, get_or-drop, length-take-le}
use Rattle.std.proofs.lemmas.Bool.{cases_Bool}
use Rattle.std.proofs.lemmas.Bool.Decides.{nat_tests}
use Rattle.sector_device.specs.DiskState.{sector_at}
use Rattle.log_format.specs.Log.{log_from}
use Rattle.log_format.specs.Content.{ImageContent, Body, chosen, area, area_length, area_start, blob_sectors, content_by, content_in, need}
use Rattle.input_entries.specs.Inputs.{inputs, inputs_in, all_entries}
use Rattle.log_format.specs.Inputs.{counted}
use Rattle.log_format.specs.Laws.{AFoundBlobFits, AFoundBlobHasItsLength, ALogOfInputsCountsThem}
use Rattle.input_entries.specs.declared.StoredEntry.{StoredEntry}
use Rattle.log_format.specs.declared.root.Root.{Root}

-- a body that was found
body_by : (root : Root) (all : List (List ℕ)) (body : Body) → (content_in root all).body ≡ Some body → (32 + blob_sectors root.blob_length ≤ length all) × (take root.blob_length (flat_map (λ (s : List ℕ). s) (drop 32 all)) ≡ body.blob)
body_by root all body is =
    let there : Body = record { blob = take root.blob_length (flat_map (λ (s : List ℕ). s) (drop 32 all)); log = log_from root.version 0 (take 32 all) } in
    elim (cases_Bool (nat_le (32 + blob_sectors root.blob_length) (length all))) [
      | inl holds ↦
          let enough : 32 + blob_sectors root.blob_length ≤ length all = grind (arith, nat_tests) in
          let here : Some there ≡ Some body = sym (ap (λ (t : Bool). if t then Some there else None) holds) ∙ is in
          let same : there ≡ body = cc in
          (enough, ap (λ (b : Body). b.blob) same)
      | inr fails ↦ let none : None ≡ Some body = sym (ap (λ (t : Bool). if t then Some there else None) fails) ∙ is in absurd (cc)
    ]

fits_by : (image : List (List ℕ)) (r : Option Root) (held : ImageContent) (body : Body) → content_by r image ≡ Some held → held.body ≡ Some body → need held.header.blob_length ≤ length image
fits_by image None held body is some = absurd (cc)
fits_by image (Some root) held body is some =
    let all = area root.generation image in
    let same : content_in root all ≡ held = cc in
    let found = body_by root all body (ap (λ (x : ImageContent). x.body) same ∙ some) in
    omega (arith, found.0, ap (λ (x : ImageContent). blob_sectors x.header.blob_length) same, length-take (area_length image) (drop (area_start root.generation image) image))

pub found_fits : AFoundBlobFits
found_fits image held body is some = fits_by image (chosen image) held body is some

-- whole sectors
abbrev IsWhole : List ℕ → Type 0
IsWhole s = length s ≡ 512

whole_bytes : (sectors : List (List ℕ)) → All IsWhole sectors → length (flat_map (λ (s : List ℕ). s) sectors) ≡ 512 * length sectors
whole_bytes [] whole = refl
whole_bytes (s ∷ sectors) whole = omega (arith, All-head IsWhole s sectors whole, whole_bytes sectors (All-tail IsWhole s sectors whole), length-append s (flat_map (λ (x : List ℕ). x) sectors))

length_by : (image : List (List ℕ)) (r : Option Root) (held : ImageContent) (body : Body) → All IsWhole image → content_by r image ≡ Some held → held.body ≡ Some body → length body.blob ≡ held.header.blob_length
length_by image None held body whole is some = absurd (cc)
length_by image (Some root) held body whole is some =
    let all = area root.generation image in
    let same : content_in root all ≡ held = cc in
    let found = body_by root all body (ap (λ (x : ImageContent). x.body) same ∙ some) in
    let wholes : All IsWhole (drop 32 all) = All-drop IsWhole 32 all (All-take IsWhole (area_length image) (drop (area_start root.generation image) image) (All-drop IsWhole (area_start root.generation image) image whole)) in
    sym (ap length found.1) ∙ length-take-le root.blob_length (flat_map (λ (s : List ℕ). s) (drop 32 all)) (omega (arith, found.0, whole_bytes (drop 32 all) wholes, length-drop 32 all)) ∙ ap (λ (x : ImageContent). x.header.blob_length) same

pub found_length : AFoundBlobHasItsLength
found_length image held body sized is some = length_by image (chosen image) held body (All-from_get_or IsWhole image [] sized.bytes) is some

counted_from : (log : List StoredEntry) (before : ℕ) → all_entries log → before + length (inputs log) ≤ 216000 → counted before log ≡ before + length (inputs log)
counted_from [] before are few = omega arith
counted_from (s ∷ log) before are few =
    let m = length (inputs_in s) in
    let size : length (inputs (s ∷ log)) ≡ m + length (inputs log) = length-append (inputs_in s) (inputs log) in
    let holds : nat_le (before + m) 216000 ≡ true = let e = size in grind (arith, nat_tests) in
    ap (λ (t : Bool). counted (before + (if t && nat_le (before + m) 216000 then m else 1)) log) are.0
    ∙ ap (λ (t : Bool). counted (before + (if t then m else 1)) log) holds
    ∙ counted_from log (before + m) are.1 (omega (arith, size, few))
    ∙ omega (arith, size)

pub counts_inputs : ALogOfInputsCountsThem
counts_inputs log are = counted_from log 0 are.each (omega (arith, are.few)) ∙ omega arith
