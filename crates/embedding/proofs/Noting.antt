-- A device with one call more noted, filled or handed out.
use Rattle.std.proofs.Common.{◌≡◌, ◌<◌, ℕ, Bool, true, false, List, [], ◌∷◌, ◌++◌, append_assoc, length, replicate, set, refl, sym, ap, ◌∙◌, subst, Result, Ok, Err, length-set, lt-ltb, eq-eqb}
use Rattle.std.specs.Prelude.{IsTrue, ◌&&◌}
use Rattle.std.proofs.lemmas.List.{map-append, length-replicate}
use Rattle.sector_device.specs.DiskState.{DiskState, no_fuse, KeepsHonesty, HasWritten, HasSynced}
use Rattle.sector_device.specs.Records.{replayed, recorded_disk, reads_after, is_sector, is_recordable, are_recordable}
use Rattle.sector_device.specs.declared.recorded.Recorded.{Recorded}
use Rattle.sector_device.specs.declared.recorded.Recorded.TheVariants as recorded
use Rattle.sector_device.proofs.Record.{replays, wrote, synced, no_write}
use Rattle.sector_device.proofs.Calls.{recordable_push}
use Rattle.embedding.specs.Calls.{blank, made, recorded_of}
use Rattle.embedding.specs.HostDevices.{calls_of, count_of, handed_of, host_disk}
use Rattle.embedding.specs.declared.host_device.Call.{Call}
use Rattle.embedding.specs.declared.host_device.HostDevice.{HostDevice}

-- ---- the list of all calls

-- one call more waits
pub more : (handed : List Recorded) (waiting new : List Call) (call : Call) → new ≡ waiting ++ call ∷ [] → handed ++ recorded_of new ≡ (handed ++ recorded_of waiting) ++ made call ∷ []
more handed waiting new call is =
    ap (λ (l : List Call). handed ++ recorded_of l) is ∙ ap (λ (l : List Recorded). handed ++ l) (map-append made waiting (call ∷ []))
    ∙ sym (append_assoc handed (recorded_of waiting) (made call ∷ []))

-- ---- what reads give

pub reads_more : (n : ℕ) (sectors : List (List ℕ)) (calls new : List Recorded) (call : Recorded) → sectors ≡ (replayed (blank n) calls).reads
    → new ≡ calls ++ call ∷ [] → reads_after sectors call ≡ (replayed (blank n) new).reads
reads_more n sectors calls new call is one =
    replays (blank n) calls call sectors is ∙ ap (λ (l : List Recorded). (replayed (blank n) l).reads) (sym one)

pub write_replays : (sectors : List (List ℕ)) (calls new : List Recorded) (at : ℕ) (bytes : List ℕ) → sectors ≡ (replayed (blank (length sectors)) calls).reads
    → new ≡ calls ++ recorded.Write at bytes true ∷ [] → set sectors at bytes ≡ (replayed (blank (length (set sectors at bytes))) new).reads
write_replays sectors calls new at bytes is one =
    reads_more (length sectors) sectors calls new (recorded.Write at bytes true) is one
    ∙ ap (λ (n : ℕ). (replayed (blank n) new).reads) (sym (length-set sectors at bytes))

-- ---- which calls can be noted

pub write_recordable : (n at : ℕ) (bytes : List ℕ) → at < n → length bytes ≡ 512 → IsTrue (is_recordable (length (blank n)) (recorded.Write at bytes true))
write_recordable n at bytes lt sector =
    let within : at < length (blank n) = subst (λ (m : ℕ). at < m) (sym (length-replicate n (replicate 512 0))) lt in
    ap (λ b. b && is_sector bytes) (lt-ltb at (length (blank n)) within) ∙ eq-eqb (length bytes) 512 sector

pub recordable_more : (n : ℕ) (calls new : List Recorded) (call : Recorded) → IsTrue (are_recordable (length (blank n)) calls)
    → IsTrue (is_recordable (length (blank n)) call) → new ≡ calls ++ call ∷ [] → IsTrue (are_recordable (length (blank n)) new)
recordable_more n calls new call all one is =
    subst (λ (l : List Recorded). IsTrue (are_recordable (length (blank n)) l)) (sym is) (recordable_push (length (blank n)) calls call all one)

pub recordable_set : (sectors : List (List ℕ)) (at : ℕ) (bytes : List ℕ) (calls : List Recorded) → IsTrue (are_recordable (length (blank (length sectors))) calls)
    → IsTrue (are_recordable (length (blank (length (set sectors at bytes)))) calls)
recordable_set sectors at bytes calls all = subst (λ (n : ℕ). IsTrue (are_recordable (length (blank n)) calls)) (sym (length-set sectors at bytes)) all

-- ---- what the calls do

abbrev disk_with : (count : ℕ) → List Recorded → (faults handed : ℕ) → DiskState
disk_with count calls faults handed = record (recorded_disk (Unit {0}) (blank count) calls faults no_fuse) { handed = handed }

module _ {old new : DiskState} (n m : ℕ) where
  kept_with : KeepsHonesty old new → KeepsHonesty (record old { handed = n }) (record new { handed = m })
  kept_with k = record { honest = k.honest; time = record { later = k.time.later; each = k.time.each }; past = k.past }

  written_with : {E : Type 0} {at : ℕ} {bytes : List ℕ} {r : Result Unit E} → HasWritten at bytes old new r → HasWritten at bytes (record old { handed = n }) (record new { handed = m }) r
  written_with w = record { goes = kept_with w.goes; written = w.written; old_or_new = w.old_or_new; images = w.images; kept = w.kept; replaced = w.replaced }

  synced_with : {E : Type 0} {r : Result Unit E} → HasSynced old new r → HasSynced (record old { handed = n }) (record new { handed = m }) r
  synced_with s = record { goes = kept_with s.goes; sectors = s.sectors; images = s.images; settled = s.settled; kept = s.kept }

module _ {E : Type 0} (old new : HostDevice) (count : count_of new ≡ count_of old) where
  pub write_done : (at : ℕ) (bytes : List ℕ) → calls_of new ≡ calls_of old ++ recorded.Write at bytes true ∷ [] → HasWritten {E = E} at bytes (host_disk old) (host_disk new) (Ok tt)
  write_done at bytes calls =
      subst (λ (c : ℕ). HasWritten {E = E} at bytes (host_disk old) (disk_with c (calls_of new) new.faults (length (handed_of new))) (Ok tt)) (sym count)
      (subst (λ (l : List Recorded). HasWritten {E = E} at bytes (host_disk old) (disk_with (count_of old) l new.faults (length (handed_of new))) (Ok tt)) (sym calls)
      (written_with (length (handed_of old)) (length (handed_of new)) (wrote (Unit {0}) tt (blank (count_of old)) (calls_of old) old.faults new.faults no_fuse at bytes (Ok tt))))

  pub write_failed : (at : ℕ) (bytes : List ℕ) (e : E) → calls_of new ≡ calls_of old → HasWritten {E = E} at bytes (host_disk old) (host_disk new) (Err e)
  write_failed at bytes e calls =
      subst (λ (c : ℕ). HasWritten {E = E} at bytes (host_disk old) (disk_with c (calls_of new) new.faults (length (handed_of new))) (Err e)) (sym count)
      (subst (λ (l : List Recorded). HasWritten {E = E} at bytes (host_disk old) (disk_with (count_of old) l new.faults (length (handed_of new))) (Err e)) (sym calls)
      (written_with (length (handed_of old)) (length (handed_of new)) (no_write (Unit {0}) tt (blank (count_of old)) (calls_of old) old.faults new.faults no_fuse at bytes e)))

  pub sync_done : calls_of new ≡ calls_of old ++ recorded.Sync true ∷ [] → HasSynced {E = E} (host_disk old) (host_disk new) (Ok tt)
  sync_done calls =
      subst (λ (c : ℕ). HasSynced {E = E} (host_disk old) (disk_with c (calls_of new) new.faults (length (handed_of new))) (Ok tt)) (sym count)
      (subst (λ (l : List Recorded). HasSynced {E = E} (host_disk old) (disk_with (count_of old) l new.faults (length (handed_of new))) (Ok tt)) (sym calls)
      (synced_with (length (handed_of old)) (length (handed_of new)) (synced (Unit {0}) tt (blank (count_of old)) (calls_of old) old.faults new.faults no_fuse (Ok tt) tt)))

-- ---- a call that may be noted

pub either : (P : List Call → Type 0) (b : Bool) (calls new : List Call) (call : Call) → (b ≡ true → new ≡ calls ++ call ∷ []) → (b ≡ false → new ≡ calls)
    → (new ≡ calls ++ call ∷ [] → P new) → P calls → P new
either P true calls new call noted refused more same = more (noted refl)
either P false calls new call noted refused more same = subst P (sym (refused refl)) same
