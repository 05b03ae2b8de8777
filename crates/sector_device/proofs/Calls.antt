-- The calls of a device in memory keep the promises of `SectorDevice`.
use Rattle.std.proofs.Common.{◌≡◌, ◌<◌, ℕ, zero, suc, List, length, Bool, true, false, nat_eq, refl, sym, ap, ◌∙◌, Result, Ok, Err, ltb-true}
use Rattle.std.proofs.lemmas.Bool.{and_parts}
use Rattle.std.specs.Prelude.{◌&&◌, IsTrue, replicate, is_ok, if◌then◌else◌, ◌++◌, ◌∷◌, [], not, ◌||◌}
use Rattle.sector_device.specs.DiskState.{HasWritten, HasSynced}
use Rattle.sector_device.specs.Records.{replayed, is_sector, are_sectors, is_recordable, are_recordable}
use Rattle.sector_device.specs.RecordLaws.{sound}
use Rattle.sector_device.specs.Memory.{MemoryState, memory_disk, fuse_fails, passes, has_room, call_counted, failed, with_record, done_or_failed, write_called, sync_called}
use Rattle.sector_device.specs.declared.recorded.Recorded.{Recorded}
use Rattle.sector_device.specs.declared.recorded.Recorded.TheVariants.{Write, Sync}
use Rattle.sector_device.proofs.Record.{wrote, lost_write, synced, lost_sync, no_write, no_sync}

no_room : (p : Bool) → true ≡ (p && false) → ⊥
no_room true e = cc
no_room false e = cc

module _ {E : Type 0} (m : MemoryState) where
  -- a write
  pub write_meets : (at : ℕ) (bytes : List ℕ) (r : Result Unit E) → is_ok r ≡ (passes m && has_room m)
      → HasWritten at bytes (memory_disk m) (memory_disk (write_called at bytes m)) r
  write_meets at bytes r e = go (fuse_fails m.fuse) (nat_eq m.fails_in 1) m.keeps (has_room m) r e
    where
      go : (fused fails keeps room : Bool) (r : Result Unit E) → is_ok r ≡ ((not fused && not fails) && room)
          → HasWritten at bytes (memory_disk m) (memory_disk (
          if room
          then (if not fused && not fails then with_record (Write at bytes (not fused && (not fails || keeps))) (call_counted m) else failed (with_record (Write at bytes (not fused && (not fails || keeps))) (call_counted m)))
          else failed (call_counted m))) r
      go fused fails keeps false (Ok u) e = absurd (no_room (not fused && not fails) e)
      go fused fails keeps false (Err x) e = no_write (Unit {0}) tt m.at_start m.recorded m.faults (failed m).faults m.set at bytes x
      go true fails keeps true (Ok u) e = absurd (cc)
      go true fails keeps true (Err x) e = lost_write (Unit {0}) tt m.at_start m.recorded m.faults (failed m).faults m.set at bytes x
      go false false keeps true r e = wrote (Unit {0}) tt m.at_start m.recorded m.faults m.faults m.set at bytes r
      go false true true true r e = wrote (Unit {0}) tt m.at_start m.recorded m.faults (failed m).faults m.set at bytes r
      go false true false true (Ok u) e = absurd (cc)
      go false true false true (Err x) e = lost_write (Unit {0}) tt m.at_start m.recorded m.faults (failed m).faults m.set at bytes x

  -- a sync
  pub sync_meets : (r : Result Unit E) → is_ok r ≡ (passes m && has_room m) → HasSynced (memory_disk m) (memory_disk (sync_called m)) r
  sync_meets r e = go (passes m) (has_room m) r e
    where
      go : (p room : Bool) (r : Result Unit E) → is_ok r ≡ (p && room)
          → HasSynced (memory_disk m) (memory_disk (
          if room then (if p then with_record (Sync p) (call_counted m) else failed (with_record (Sync p) (call_counted m))) else failed (call_counted m))) r
      go p false (Ok u) e = absurd (no_room p e)
      go p false (Err x) e = no_sync (Unit {0}) tt m.at_start m.recorded m.faults (failed m).faults m.set x
      go true true (Ok u) e = synced (Unit {0}) tt m.at_start m.recorded m.faults m.faults m.set (Ok u) tt
      go true true (Err x) e = absurd (cc)
      go false true (Ok u) e = absurd (cc)
      go false true (Err x) e = lost_sync (Unit {0}) tt m.at_start m.recorded m.faults (failed m).faults m.set x

-- what stood at the start stays
pub start_of_done : (p : Bool) (call : Recorded) (m : MemoryState) → (done_or_failed p call m).at_start ≡ m.at_start
start_of_done p call m = go (has_room m) p
  where
    go : (room p : Bool) → (if room then (if p then with_record call m else failed (with_record call m)) else failed m).at_start ≡ m.at_start
    go true true = refl
    go true false = refl
    go false p = refl

pub same_count : (a a' : List (List ℕ)) (r r' : List Recorded) → IsTrue (are_sectors a) → IsTrue (are_sectors a') → IsTrue (are_recordable (length a) r) → IsTrue (are_recordable (length a') r')
    → a' ≡ a → length (replayed a' r').reads ≡ length (replayed a r).reads
same_count a a' r r' s s' w w' e = (sound a' r' s' w').reads_count ∙ ap (λ (l : List (List ℕ)). length l) e ∙ sym (sound a r s w).reads_count

pub recordable_push : (n : ℕ) (calls : List Recorded) (call : Recorded) → IsTrue (are_recordable n calls) → IsTrue (is_recordable n call) → IsTrue (are_recordable n (calls ++ call ∷ []))
recordable_push n [] call all one = ap (λ (b : Bool). b && true) one
recordable_push n (c ∷ calls) call all one =
    let p = and_parts _ _ all in
    ap (λ (b : Bool). b && are_recordable n (calls ++ call ∷ [])) p.0 ∙ recordable_push n calls call p.1 one

pub writes_within : (n at : ℕ) (bytes : List ℕ) (kept : Bool) → IsTrue (is_recordable n (Write at bytes kept)) → at < n
writes_within n at bytes kept one = ltb-true at n (and_parts _ _ one).0

pub zero_sectors : (n : ℕ) (s : List ℕ) → IsTrue (is_sector s) → IsTrue (are_sectors (replicate n s))
zero_sectors zero s one = refl
zero_sectors (suc n) s one = ap (λ (b : Bool). b && are_sectors (replicate n s)) one ∙ zero_sectors n s one
