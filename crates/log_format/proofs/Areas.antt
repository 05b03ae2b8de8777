-- The sectors of an area: those of its log, and those of its blob.
use Rattle.std.proofs.Common.{◌≡◌, ℕ, zero, suc, ◌+◌, ◌-◌, ◌*◌, ◌/◌, ◌<◌, ◌≤◌, min, List, [], length, take, drop, refl, ap, ◌∙◌, arith, length-append, length-drop}
use Rattle.std.proofs.lemmas.List.{get_or_append_left, get_or-append_right, drop-drop, take_min, drop_min}
use Rattle.sector_device.specs.DiskState.{sector_at}
use Rattle.log_format.specs.Log.{log_sector, log_sectors, log_area, padded, blob_area, fresh_area}
use Rattle.input_entries.specs.declared.StoredEntry.{StoredEntry}

pub length-log_sectors : (n index : ℕ) (entries : List StoredEntry) → length (log_sectors n index entries) ≡ n
length-log_sectors zero index entries = refl
length-log_sectors (suc n) index entries = omega (arith, length-log_sectors n (suc index) (drop 84 entries))

pub log_sectors_at : (n index k : ℕ) (entries : List StoredEntry) → k < n → sector_at (log_sectors n index entries) k ≡ log_sector (index + k) (take 84 (drop (84 * k) entries))
log_sectors_at zero index k entries le = absurd (omega arith)
log_sectors_at (suc n) index zero entries le = let e : index ≡ index + 0 = omega arith in ap (λ i. log_sector i (take 84 entries)) e
log_sectors_at (suc n) index (suc k) entries le =
    let e : suc index + k ≡ index + suc k = omega arith in
    let m : 84 + 84 * k ≡ 84 * suc k = omega arith in
    log_sectors_at n (suc index) k (drop 84 entries) (omega arith)
    ∙ (λ i. log_sector (e i) (take 84 (drop-drop (84 * k) 84 entries i)))
    ∙ ap (λ j. log_sector (index + suc k) (take 84 (drop j entries))) m

pub length-log_area : (entries : List StoredEntry) → length (log_area entries) ≡ 32
unfolding log_area
length-log_area entries = length-log_sectors 32 0 entries

pub log_area_at : (k : ℕ) (entries : List StoredEntry) → k < 32 → sector_at (log_area entries) k ≡ log_sector k (take 84 (drop (84 * k) entries))
unfolding log_area
log_area_at k entries le = let e : 0 + k ≡ k = omega arith in log_sectors_at 32 0 k entries le ∙ ap (λ i. log_sector i (take 84 (drop (84 * k) entries))) e

pub part_is : {X : Type 0} (n : ℕ) (xs : List X) (from to : ℕ) → to ≡ min (from + n) (length xs) → take (to - from) (drop from xs) ≡ take n (drop from xs)
part_is n xs from to t =
    let width : to - from ≡ min n (length (drop from xs)) = omega (arith, length-drop from xs) in
    ap (λ m. take m (drop from xs)) width ∙ take_min n (drop from xs)

pub chunk_is : {X : Type 0} (log : List X) (at from to : ℕ) → from ≡ min at (length log) → to ≡ min (from + 84) (length log) → take (to - from) (drop from log) ≡ take 84 (drop at log)
chunk_is log at from to f t = part_is 84 log from to t ∙ ap (take 84) (ap (λ n. drop n log) f ∙ drop_min at log)

pub length-blob_area : (n : ℕ) (blob : List ℕ) → length (blob_area n blob) ≡ n
length-blob_area zero blob = refl
length-blob_area (suc n) blob = omega (arith, length-blob_area n (drop 512 blob))

pub blob_area_at : (n k : ℕ) (blob : List ℕ) → k < n → sector_at (blob_area n blob) k ≡ padded (take 512 (drop (512 * k) blob))
blob_area_at zero k blob le = absurd (omega arith)
blob_area_at (suc n) zero blob le = refl
blob_area_at (suc n) (suc k) blob le =
    let m : 512 + 512 * k ≡ 512 * suc k = omega arith in
    blob_area_at n k (drop 512 blob) (omega arith) ∙ ap (λ (l : List ℕ). padded (take 512 l)) (drop-drop (512 * k) 512 blob) ∙ ap (λ j. padded (take 512 (drop j blob))) m

pub length-fresh_area : (blob : List ℕ) → length (fresh_area blob) ≡ 32 + (length blob + 511) / 512
unfolding fresh_area
length-fresh_area blob = omega (arith, length-append (log_area []) (blob_area ((length blob + 511) / 512) blob), length-log_area [], length-blob_area ((length blob + 511) / 512) blob)

blank_at : (k n : ℕ) → k < n → take 84 (drop {A = StoredEntry} k []) ≡ []
blank_at zero n le = refl
blank_at (suc k) n le = refl

pub fresh_log_at : (k : ℕ) (blob : List ℕ) → k < 32 → sector_at (fresh_area blob) k ≡ padded []
unfolding fresh_area
fresh_log_at k blob le =
    get_or_append_left (log_area []) (blob_area ((length blob + 511) / 512) blob) [] k (omega (arith, length-log_area []))
    ∙ log_area_at k [] le ∙ ap (log_sector k) (blank_at (84 * k) (84 * k + 1) (omega arith))

pub fresh_blob_at : (k : ℕ) (blob : List ℕ) → 32 ≤ k → k < 32 + (length blob + 511) / 512 → sector_at (fresh_area blob) k ≡ padded (take 512 (drop (512 * (k - 32)) blob))
unfolding fresh_area
fresh_blob_at k blob from to =
    get_or-append_right (log_area []) (blob_area ((length blob + 511) / 512) blob) 32 k [] (length-log_area []) from
    ∙ blob_area_at ((length blob + 511) / 512) (k - 32) blob (omega arith)
