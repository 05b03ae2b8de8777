-- Proofs of the laws of `SectorDevice` for a device that keeps a record. They stand here since an `impl` cites them.
use Rattle.std.specs.Prelude.{◌≡◌, ◌≤◌, ◌<◌, ◌^◌, ◌++◌, ◌&&◌, ℕ, zero, suc, List, [], ◌∷◌, length, Bool, true, false, IsTrue, if◌then◌else◌, refl}
use Rattle.std.proofs.Common.{subst, sym, ap, ◌∙◌, arith, set, length-set, eqb-true}
use Rattle.std.proofs.lemmas.Bool.{and_parts}
use Rattle.std.proofs.lemmas.List.{take_all, length_push}
use Rattle.sector_device.specs.DiskState.{IsSized, sector_at}
use Rattle.sector_device.specs.Records.{cut, Replayed, after, after_all, replayed, IsCutOf, IsImageSince, is_sector, are_sectors, is_recordable, are_recordable}
use Rattle.sector_device.specs.declared.recorded.Recorded.{Recorded}
use Rattle.sector_device.specs.declared.recorded.Recorded.TheVariants.{Write, Sync}

-- ---- time

pub only_last : (at_start : List (List ℕ)) (calls : List Recorded) (c : List (List ℕ)) → IsImageSince at_start calls (length calls) c → IsCutOf (replayed at_start calls) c
only_last at_start calls c s = subst (λ l. IsCutOf (replayed at_start l) c) (take_all s.0 calls s.1) s.3

pub counts_last : (at_start : List (List ℕ)) (calls : List Recorded) (t : ℕ) (c : List (List ℕ)) → t ≤ length calls → IsCutOf (replayed at_start calls) c → IsImageSince at_start calls t c
counts_last at_start calls t c le now =
    (length calls, le, omega arith, subst (λ l. IsCutOf (replayed at_start l) c) (sym (take_all (length calls) calls (omega arith))) now)

-- ---- what reads give is an image

pub cut_push_all : (s : List (List ℕ)) (ws : List (ℕ × List ℕ)) (at : ℕ) (v : List ℕ) (kept : List Bool) (b : Bool) → length kept ≡ length ws
    → cut s (ws ++ (at, v) ∷ []) (kept ++ b ∷ []) ≡ (if b then set (cut s ws kept) at v else cut s ws kept)
cut_push_all s [] at v [] true same = refl
cut_push_all s [] at v [] false same = refl
cut_push_all s [] at v (k ∷ kept) b same = absurd (omega arith)
cut_push_all s (w ∷ ws) at v [] b same = absurd (omega arith)
cut_push_all s (w ∷ ws) at v (k ∷ kept) b same = cut_push_all (if k then set s w.0 w.1 else s) ws at v kept b (omega arith)

pub record Within (d : Replayed) : Type 0 where
  pub kept : List Bool
  pub size : length kept ≡ length d.writes
  pub is : d.reads ≡ cut d.synced d.writes kept

within_after : (d : Replayed) (call : Recorded) → Within d → Within (after d call)
within_after d (Write at bytes true) w = record {
  kept = w.kept ++ true ∷ [];
  size = omega (arith, w.size, length_push w.kept true, length_push d.writes (at, bytes));
  is = ap (λ (l : List (List ℕ)). set l at bytes) w.is ∙ sym (cut_push_all d.synced d.writes at bytes w.kept true w.size);
}
within_after d (Write at bytes false) w = record {
  kept = w.kept ++ false ∷ [];
  size = omega (arith, w.size, length_push w.kept false, length_push d.writes (at, bytes));
  is = w.is ∙ sym (cut_push_all d.synced d.writes at bytes w.kept false w.size);
}
within_after d (Sync true) w = record { kept = []; size = refl; is = refl }
within_after d (Sync false) w = w

within_all : (d : Replayed) (calls : List Recorded) → Within d → Within (after_all d calls)
within_all d [] w = w
within_all d (c ∷ calls) w = within_all (after d c) calls (within_after d c w)

pub within : (at_start : List (List ℕ)) (calls : List Recorded) → Within (replayed at_start calls)
within at_start calls = within_all _ calls (record { kept = []; size = refl; is = refl })

pub reads_image : (at_start : List (List ℕ)) (calls : List Recorded) → IsCutOf (replayed at_start calls) (replayed at_start calls).reads
reads_image at_start calls = let w = within at_start calls in (w.kept, w.is)

-- ---- each image has the device's sectors

sectors_set : (s : List (List ℕ)) (at : ℕ) (v : List ℕ) → IsTrue (are_sectors s) → IsTrue (is_sector v) → IsTrue (are_sectors (set s at v))
sectors_set [] at v all one = all
sectors_set (x ∷ s) zero v all one = let p = and_parts _ _ all in ap (λ (b : Bool). b && are_sectors s) one ∙ p.1
sectors_set (x ∷ s) (suc at) v all one = let p = and_parts _ _ all in ap (λ (b : Bool). b && are_sectors (set s at v)) p.0 ∙ sectors_set s at v p.1 one

sectors_at : (s : List (List ℕ)) (k : ℕ) → IsTrue (are_sectors s) → k < length s → length (sector_at s k) ≡ 512
sectors_at [] k all lt = absurd (omega arith)
sectors_at (x ∷ s) zero all lt = eqb-true _ _ (and_parts _ _ all).0
sectors_at (x ∷ s) (suc k) all lt = sectors_at s k (and_parts _ _ all).1 (omega arith)

abbrev pub are_writes : List (ℕ × List ℕ) → Bool
are_writes [] = true
are_writes (w ∷ ws) = is_sector w.1 && are_writes ws

writes_push : (ws : List (ℕ × List ℕ)) (at : ℕ) (v : List ℕ) → IsTrue (are_writes ws) → IsTrue (is_sector v) → IsTrue (are_writes (ws ++ (at, v) ∷ []))
writes_push [] at v all one = ap (λ (b : Bool). b && true) one
writes_push (w ∷ ws) at v all one = let p = and_parts _ _ all in ap (λ (b : Bool). b && are_writes (ws ++ (at, v) ∷ [])) p.0 ∙ writes_push ws at v p.1 one

cut_sectors : (s : List (List ℕ)) (ws : List (ℕ × List ℕ)) (kept : List Bool) → IsTrue (are_sectors s) → IsTrue (are_writes ws) → IsTrue (are_sectors (cut s ws kept)) × (length (cut s ws kept) ≡ length s)
cut_sectors s [] kept all one = (all, refl)
cut_sectors s (w ∷ ws) [] all one = (all, refl)
cut_sectors s (w ∷ ws) (true ∷ kept) all one =
    let p = and_parts _ _ one in
    let r = cut_sectors (set s w.0 w.1) ws kept (sectors_set s w.0 w.1 all p.0) p.1 in
    (r.0, r.1 ∙ length-set s w.0 w.1)
cut_sectors s (w ∷ ws) (false ∷ kept) all one = cut_sectors s ws kept all (and_parts _ _ one).1

pub record IsSound (count : ℕ) (d : Replayed) : Type 0 where
  pub synced : IsTrue (are_sectors d.synced)
  pub synced_count : length d.synced ≡ count
  pub reads : IsTrue (are_sectors d.reads)
  pub reads_count : length d.reads ≡ count
  pub writes : IsTrue (are_writes d.writes)

sound_after : (n : ℕ) (d : Replayed) (call : Recorded) → IsTrue (is_recordable n call) → IsSound n d → IsSound n (after d call)
sound_after n d (Write at bytes true) one s =
    let p = and_parts _ _ one in
    record { synced = s.synced; synced_count = s.synced_count; reads = sectors_set d.reads at bytes s.reads p.1; reads_count = length-set d.reads at bytes ∙ s.reads_count; writes = writes_push d.writes at bytes s.writes p.1 }
sound_after n d (Write at bytes false) one s =
    let p = and_parts _ _ one in
    record { synced = s.synced; synced_count = s.synced_count; reads = s.reads; reads_count = s.reads_count; writes = writes_push d.writes at bytes s.writes p.1 }
sound_after n d (Sync true) one s = record { synced = s.reads; synced_count = s.reads_count; reads = s.reads; reads_count = s.reads_count; writes = refl }
sound_after n d (Sync false) one s = s

sound_all : (n : ℕ) (d : Replayed) (calls : List Recorded) → IsTrue (are_recordable n calls) → IsSound n d → IsSound n (after_all d calls)
sound_all n d [] all s = s
sound_all n d (c ∷ calls) all s = let p = and_parts _ _ all in sound_all n (after d c) calls p.1 (sound_after n d c p.0 s)

pub sound : (at_start : List (List ℕ)) (calls : List Recorded) → IsTrue (are_sectors at_start) → IsTrue (are_recordable (length at_start) calls) → IsSound (length at_start) (replayed at_start calls)
sound at_start calls all one = sound_all _ _ calls one (record { synced = all; synced_count = refl; reads = all; reads_count = refl; writes = refl })

pub cut_sized : (at_start : List (List ℕ)) (calls : List Recorded) (kept : List Bool) → IsTrue (are_sectors at_start) → IsTrue (are_recordable (length at_start) calls)
    → IsTrue (are_sectors (cut (replayed at_start calls).synced (replayed at_start calls).writes kept))
cut_sized at_start calls kept all one =
    let s = sound at_start calls all one in
    (cut_sectors (replayed at_start calls).synced (replayed at_start calls).writes kept s.synced s.writes).0

pub images_sized : (at_start : List (List ℕ)) (calls : List Recorded) (c : List (List ℕ)) → IsTrue (are_sectors at_start) → IsTrue (are_recordable (length at_start) calls)
    → IsCutOf (replayed at_start calls) c → IsSized (length (replayed at_start calls).reads) c
images_sized at_start calls c all one is =
    let d = replayed at_start calls in
    let s = sound at_start calls all one in
    let r = cut_sectors d.synced d.writes is.0 s.synced s.writes in
    let size : length c ≡ length d.reads = ap (λ (l : List (List ℕ)). length l) is.1 ∙ r.1 ∙ s.synced_count ∙ sym s.reads_count in
    let every : IsTrue (are_sectors c) = ap (λ (l : List (List ℕ)). are_sectors l) is.1 ∙ r.0 in
    record { size = size; bytes = λ k lt. sectors_at c k every (omega arith) }

-- ---- numbers that fit

pub reads_fit : (at_start : List (List ℕ)) (calls : List Recorded) → IsTrue (are_sectors at_start) → IsTrue (are_recordable (length at_start) calls)
    → length at_start < 2 ^ 64 → length (replayed at_start calls).reads < 2 ^ 64
reads_fit at_start calls all one fits =
    let P : ℕ → Type 0 = λ n. n < 2 ^ 64 in
    subst P (sym (sound at_start calls all one).reads_count) fits
