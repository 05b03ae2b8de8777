-- The steps of recovery, over what was found of any device; a reader needs none of this.
use Rattle.std.specs.Prelude.{◌≡◌, ◌≢◌, ◌⊎◌, ◌<◌, ◌+◌, ◌-◌, ◌^◌, ℕ, List, length, Some, None}
use Rattle.sha2.specs.Sha256.{sha256}
use Rattle.machine.specs.Machine.{MachineState, after}
use Rattle.snapshot.specs.Encoding.{encoded}
use Rattle.snapshot.specs.Legal.{IsMachineOf, IsLegalSnapshot, IsRefusal}
use Rattle.snapshot.specs.declared.error.SnapError.TheVariants.{SnapLength, Memory as NoMemory}
use Rattle.input_entries.specs.Inputs.{inputs}
use Rattle.log_format.specs.Inputs.{first_wrong}
use Rattle.log_format.specs.Found.{Seen}
use Rattle.input_entries.specs.declared.StoredEntry.{StoredEntry}
use Rattle.log_format.specs.declared.content.Header.{Header}
use Rattle.log_format.specs.declared.content.Found.{Found}
use Rattle.log_format.specs.declared.content.Found.TheVariants.{Nothing, Intact, Damaged as DamagedLog}
use Rattle.log_format.specs.declared.content.Part.TheVariants.{Length, Count as TooMany}
use Rattle.session.specs.Inputs.{logged}
use Rattle.session.specs.declared.error.Damage.TheVariants.{Count, Snapshot, Entry}
use Rattle.session.specs.declared.error.SessionError.{SessionError}
use Rattle.session.specs.declared.error.SessionError.TheVariants.{Memory, NoSession, TooSmall, OtherCartridge, Damaged, GenerationsUsedUp}

-- what was found is whole, of this digest, and can be counted
pub record IsHeader (found : Found) (digest : List ℕ) (header : Header) : Type 0 where
  pub found_is : found ≡ Intact header
  pub id_is : header.id ≡ digest

abbrev pub IsHeaderCause : Found → (digest : List ℕ) → SessionError → Type 0
IsHeaderCause found digest NoSession = found ≡ Nothing
IsHeaderCause found digest (TooSmall needed) = (header : Header) × (found ≡ DamagedLog header (Length needed))
IsHeaderCause found digest OtherCartridge = (header : Header) × ((found ≡ Intact header) ⊎ (found ≡ DamagedLog header TooMany)) × (header.id ≢ digest)
IsHeaderCause found digest (Damaged Count) = (header : Header) × (found ≡ DamagedLog header TooMany) × (header.id ≡ digest)
IsHeaderCause found digest why = ⊥

abbrev pub IsLogCause : List StoredEntry → (generation : ℕ) → SessionError → Type 0
IsLogCause log generation (Damaged (Entry index)) = first_wrong log ≡ Some index
IsLogCause log generation GenerationsUsedUp = (first_wrong log ≡ None) × (generation ≡ 2 ^ 64 - 1)
IsLogCause log generation why = ⊥

-- the machine of a snapshot after the inputs of the log after it
pub record IsRebuilt (rom : List ℕ) (header : Header) (bytes : List ℕ) (log : List StoredEntry) (generation count : ℕ) (machine : MachineState) : Type 0 where
  pub snapshot : MachineState
  pub of : IsMachineOf rom snapshot
  pub encoded_is : encoded snapshot ≡ bytes
  pub inputs_are : first_wrong log ≡ None
  pub machine_is : machine ≡ after snapshot (logged log)
  pub count_is : count ≡ header.base + length (inputs log)
  pub unworn : generation < 2 ^ 64 - 1

abbrev pub IsRebuildCause : (rom bytes : List ℕ) → List StoredEntry → (generation : ℕ) → SessionError → Type 0
IsRebuildCause rom bytes log generation Memory = IsLegalSnapshot rom bytes × (first_wrong log ≡ None) × (generation < 2 ^ 64 - 1)
IsRebuildCause rom bytes log generation (Damaged (Snapshot error)) = IsRefusal rom bytes error × (error ≢ NoMemory)
IsRebuildCause rom bytes log generation (Damaged (Entry index)) = IsLegalSnapshot rom bytes × (first_wrong log ≡ Some index)
IsRebuildCause rom bytes log generation GenerationsUsedUp = IsLegalSnapshot rom bytes × (first_wrong log ≡ None) × (generation ≡ 2 ^ 64 - 1)
IsRebuildCause rom bytes log generation why = ⊥

-- the same of what was found of a device
pub record IsRecovered (rom : List ℕ) (seen : Seen) (generation count : ℕ) (machine : MachineState) : Type 0 where
  pub header : Header
  pub found_is : seen.found ≡ Intact header
  pub id_is : header.id ≡ sha256 rom
  pub bytes : List ℕ
  pub blob_is : seen.blob ≡ Some bytes
  pub rebuilt : IsRebuilt rom header bytes seen.log generation count machine

-- a refusal of the snapshot or of the log after it
pub record IsRebuildRefusal (rom : List ℕ) (seen : Seen) (generation : ℕ) (why : SessionError) : Type 0 where
  pub header : Header
  pub found_is : seen.found ≡ Intact header
  pub id_is : header.id ≡ sha256 rom
  pub bytes : List ℕ
  pub blob_is : seen.blob ≡ Some bytes
  pub cause : IsRebuildCause rom bytes seen.log generation why

-- the snapshot was longer than any of this ROM
pub record IsTooLong (rom : List ℕ) (seen : Seen) (why : SessionError) : Type 0 where
  pub header : Header
  pub found_is : seen.found ≡ Intact header
  pub id_is : header.id ≡ sha256 rom
  pub none : seen.blob ≡ None
  pub why_is : why ≡ Damaged (Snapshot (SnapLength header.blob_length))

abbrev pub IsRecoveryCause : (rom : List ℕ) → Seen → (generation : ℕ) → SessionError → Type 0
IsRecoveryCause rom seen generation why =
    IsHeaderCause seen.found (sha256 rom) why ⊎ (IsTooLong rom seen why ⊎ IsRebuildRefusal rom seen generation why)
