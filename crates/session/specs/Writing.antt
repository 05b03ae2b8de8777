-- What a save writes to a store; a reader needs none of this.
use Rattle.std.specs.Prelude.{◌≡◌, ◌⊎◌, ℕ, List, [], Bool, true, false, Some}
use Rattle.sector_device.specs.DiskState.{DiskState}
use Rattle.log_format.specs.Appends.{HoldsPrefix, grown}
use Rattle.sector_log.specs.Calls.{HasBegun, IsAppended}
use Rattle.log_format.specs.Content.{content, new_generation}
use Rattle.log_format.specs.Found.{log_of}
use Rattle.input_entries.specs.declared.Entry.{Entry}
use Rattle.input_entries.specs.declared.StoredEntry.{StoredEntry}

-- where they fit, the old content with a prefix of the entries after its log; else the old content or the new one
abbrev pub HoldsWritten : (fits : Bool) → (old : List (List ℕ)) → List Entry → (id : List ℕ) → (all : ℕ) → (blob : List ℕ) → List (List ℕ) → Type 0
HoldsWritten true old entries id all blob image = HoldsPrefix old entries image
HoldsWritten false old entries id all blob image = (content image ≡ content old) ⊎ (content image ≡ Some (new_generation id all blob))

abbrev pub IsWritten : (fits : Bool) → (old new : DiskState) → List Entry → (id : List ℕ) → (all : ℕ) → (blob : List ℕ) → (log after : List StoredEntry) → Type 0
IsWritten true old new entries id all blob log after =
    IsAppended old new entries × (after ≡ grown log entries) × (log_of (content new.sectors) ≡ after)
IsWritten false old new entries id all blob log after = HasBegun old new id all blob × (after ≡ [])
