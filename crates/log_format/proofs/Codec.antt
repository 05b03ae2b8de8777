-- A log sector that was written is read back.
use Rattle.std.proofs.Common.{◌≡◌, ℕ, ◌-◌, ◌*◌, ◌<◌, ◌≤◌, List, [], ◌∷◌, ◌++◌, length, drop, true, if◌then◌else◌, refl, ap, ◌∙◌, arith}
use Rattle.std.proofs.lemmas.Bool.Decides.{nat_tests}
use Rattle.std.proofs.lemmas.Nat.{from_le_bytes-to_le_bytes_2}
use Rattle.std.specs.List.{flat_map}
use Rattle.std.specs.Int.{w16, to_le_bytes, from_le_bytes}
use lib.ListN.{replicate}
use Rattle.log_format.specs.Log.{count_in, is_log_sector, entries_from, entries_at, log_sector}
use Rattle.input_entries.specs.declared.StoredEntry.{StoredEntry}
use Rattle.log_format.specs.declared.root.Version.TheVariants.{Two}
use Rattle.input_entries.proofs.CodeLengths.{AreCodes, codes_read}

entries_read : (es : List StoredEntry) (rest : List ℕ) → AreCodes es → entries_from Two (length es) (flat_map (λ (x : StoredEntry). x.code) es ++ rest) ≡ es
entries_read [] rest are = refl
entries_read (e ∷ es) rest are =
    let read = codes_read e es rest are.0 in
    λ i. record { code = read.0 i } ∷ (ap (entries_from Two (length es)) read.1 ∙ entries_read es rest are.1) i

pub entries_written : (index : ℕ) (es : List StoredEntry) → index < 65536 → length es ≤ 84 → AreCodes es → entries_at Two index (log_sector index es) ≡ es
entries_written index [] small few are = refl
entries_written index (e ∷ es) small few are =
    let here : from_le_bytes w16 (to_le_bytes w16 index) ≡ index = from_le_bytes-to_le_bytes_2 index (omega arith) in
    let count : count_in (log_sector index (e ∷ es)) ≡ length (e ∷ es) = from_le_bytes-to_le_bytes_2 (length (e ∷ es)) (omega arith) in
    let valid : is_log_sector Two index (log_sector index (e ∷ es)) ≡ true = rw (here, count) (grind (arith, nat_tests)) in
    let rest = replicate (504 - 6 * length (e ∷ es)) 0 in
    let tail : drop 8 (log_sector index (e ∷ es)) ≡ flat_map (λ (x : StoredEntry). x.code) (e ∷ es) ++ rest = refl in
    (ap (λ b. if b then entries_from Two (count_in (log_sector index (e ∷ es))) (drop 8 (log_sector index (e ∷ es))) else []) valid)
    ∙ ap (λ n. entries_from Two n (drop 8 (log_sector index (e ∷ es)))) count
    ∙ ap (entries_from Two (length (e ∷ es))) tail
    ∙ entries_read (e ∷ es) rest are
