-- What a file device has noted, with one call more.
use Rattle.std.proofs.Common.{◌≡◌, ℕ, List, [], ◌∷◌, ◌++◌, length, Bool, true, false, sym, ap, ◌∙◌, subst, Result, Ok, Err}
use Rattle.std.specs.Prelude.{◌&&◌, IsTrue}
use Rattle.sector_device.specs.DiskState.{DiskState, no_fuse, HasWritten, HasSynced}
use Rattle.sector_device.specs.Records.{recorded_disk, replayed, reads_after, is_recordable, are_recordable, is_sector, are_sectors}
use Rattle.sector_device.specs.FileRecord.{with_call}
use Rattle.sector_device.specs.declared.file_record.FileRecord.{FileRecord}
use Rattle.sector_device.specs.declared.recorded.Recorded.{Recorded}
use Rattle.sector_device.specs.declared.recorded.Recorded.TheVariants.{Write, Sync}
use Rattle.sector_device.proofs.Record.{wrote, lost_write, synced, lost_sync, replays}
use Rattle.sector_device.proofs.Calls.{recordable_push}
use Rattle.std.proofs.lemmas.Bool.{and_parts}

module _ (h h' : FileRecord) (call : Recorded) (more : h' ≡ with_call call h) where
  pub same_found : h'.found ≡ h.found
  same_found = ap (λ (x : FileRecord). x.found) more

  pub replays_more : (s s' : List (List ℕ)) → s ≡ (replayed h.found h.calls).reads → s' ≡ reads_after s call → s' ≡ (replayed h'.found h'.calls).reads
  replays_more s s' was is = is ∙ replays h.found h.calls call s was ∙ sym (ap (λ (x : FileRecord). (replayed x.found x.calls).reads) more)

  pub recordable_more : IsTrue (are_recordable (length h.found) h.calls) → IsTrue (is_recordable (length h.found) call) → IsTrue (are_recordable (length h'.found) h'.calls)
  recordable_more all one = subst (λ (x : FileRecord). IsTrue (are_recordable (length x.found) x.calls)) (sym more) (recordable_push (length h.found) h.calls call all one)

abbrev history_disk : FileRecord → ℕ → DiskState
history_disk h faults = recorded_disk (h.found ≡ h.held) h.found h.calls faults no_fuse

module _ {E : Type 0} (h h' : FileRecord) (f f' : ℕ) (honest : h.found ≡ h.held) where
  pub file_wrote : (at : ℕ) (bytes : List ℕ) (r : Result Unit E) → h' ≡ with_call (Write at bytes true) h → HasWritten at bytes (history_disk h f) (history_disk h' f') r
  file_wrote at bytes r more =
      subst (λ (x : FileRecord). HasWritten at bytes (history_disk h f) (history_disk x f') r) (sym more) (wrote (h.found ≡ h.held) honest h.found h.calls f f' no_fuse at bytes r)

  pub file_lost : (at : ℕ) (bytes : List ℕ) (e : E) → h' ≡ with_call (Write at bytes false) h → HasWritten at bytes (history_disk h f) (history_disk h' f') (Err e)
  file_lost at bytes e more =
      subst (λ (x : FileRecord). HasWritten at bytes (history_disk h f) (history_disk x f') (Err e)) (sym more) (lost_write (h.found ≡ h.held) honest h.found h.calls f f' no_fuse at bytes e)

  pub file_synced : (u : Unit {0}) → h' ≡ with_call (Sync true) h → HasSynced {E = E} (history_disk h f) (history_disk h' f') (Ok u)
  file_synced u more =
      subst (λ (x : FileRecord). HasSynced {E = E} (history_disk h f) (history_disk x f') (Ok u)) (sym more) (synced (h.found ≡ h.held) honest h.found h.calls f f' no_fuse (Ok u) tt)

  pub file_not_synced : (e : E) → h' ≡ with_call (Sync false) h → HasSynced (history_disk h f) (history_disk h' f') (Err e)
  file_not_synced e more =
      subst (λ (x : FileRecord). HasSynced (history_disk h f) (history_disk x f') (Err e)) (sym more) (lost_sync (h.found ≡ h.held) honest h.found h.calls f f' no_fuse e)

pub sectors_push : (s : List (List ℕ)) (v : List ℕ) → IsTrue (are_sectors s) → IsTrue (is_sector v) → IsTrue (are_sectors (s ++ v ∷ []))
sectors_push [] v all one = ap (λ (b : Bool). b && true) one
sectors_push (x ∷ s) v all one = let p = and_parts _ _ all in ap (λ (b : Bool). b && are_sectors (s ++ v ∷ [])) p.0 ∙ sectors_push s v p.1 one
