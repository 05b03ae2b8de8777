-- What the calls of a session leave on a device, by what its images hold and stand for.
use Rattle.std.specs.Prelude.{◌≡◌, ◌⊎◌, ◌==◌, ◌&&◌, ◌≤◌, ◌<◌, ◌+◌, ◌-◌, ◌^◌, ℕ, List, length, Bool, true, false, if◌then◌else◌, Some, Result, Ok, Err}
use Rattle.sha2.specs.Sha256.{sha256}
use Rattle.machine.specs.Machine.{MachineState, start}
use Rattle.cartridge.specs.Header.{ram_length_of}
use Rattle.snapshot.specs.Encoding.{encoded, snapshot_length}
use Rattle.snapshot.specs.Legal.{IsLegalSnapshot, IsFault}
use Rattle.sector_device.specs.DiskState.{DiskState, next_count}
use Rattle.log_format.specs.Content.{ImageContent, content, generation_in, need, new_generation}
use Rattle.log_format.specs.Appends.{Adds, fits, grown}
use Rattle.log_format.specs.Found.{log_of}
use Rattle.input_entries.specs.declared.Entry.{Entry}
use Rattle.input_entries.specs.declared.StoredEntry.{StoredEntry}
use Rattle.session.specs.Inputs.{can_be_logged}
use Rattle.session.specs.declared.error.Damage.TheVariants.{Snapshot}
use Rattle.session.specs.declared.error.SessionError.{SessionError}
use Rattle.session.specs.declared.error.SessionError.TheVariants.{Memory, Device, NoSession, TooSmall, OtherCartridge, Damaged, GenerationsUsedUp, Broken, SaveFirst, CountFull, Output}
use Rattle.session.specs.Stands.{Position, stands}

-- ---- a new game

-- a snapshot of the machine that a game begins with, after which there is no input
abbrev pub game_content : (rom : List ℕ) → MachineState → ImageContent
game_content rom machine = new_generation (sha256 rom) 0 (encoded machine)

-- the image has the content of one that stood before
pub record HasContentOf (old : DiskState) (image : List (List ℕ)) : Type 0 where
  pub before : List (List ℕ)
  pub stood : old.image before
  pub is : content image ≡ content before

-- so it is, or it has the content of the game that begins with this machine
abbrev pub HasOldContentOrGame : (rom : List ℕ) → MachineState → DiskState → List (List ℕ) → Type 0
HasOldContentOrGame rom machine old image = HasContentOf old image ⊎ (content image ≡ Some (game_content rom machine))

-- or of that which begins at power-on
abbrev pub HasOldContentOrNewGame : (rom : List ℕ) → DiskState → List (List ℕ) → Type 0
HasOldContentOrNewGame rom old image = HasOldContentOrGame rom (start rom) old image

-- a game of this ROM fits the device, whose generation, if it is honest, has a next one: only a failed call refuses a new game
pub record CanBeginGame (rom : List ℕ) (old : DiskState) : Type 0 where
  pub enough : need (snapshot_length (ram_length_of rom)) ≤ length old.sectors
  pub unworn : old.honest → generation_in old.sectors < 2 ^ 64 - 1

-- ---- a game looked at

-- what reads give stands for a position: only memory or a failed call refuses a look at it
pub record CanBeLookedAt (rom : List ℕ) (old : DiskState) : Type 0 where
  pub from : Position
  pub stood : stands rom (content old.sectors) ≡ Some from

-- ---- a save

-- the log can hold them all behind what it holds
abbrev pub fits_log : (log : List StoredEntry) → List Entry → Bool
fits_log log entries = can_be_logged entries && fits log entries

-- after the log where the entries fit it, else in a new generation with a snapshot of the machine and an empty log
abbrev pub IsSaved : (fits : Bool) → (rom : List ℕ) → (all : ℕ) → MachineState → List Entry → (old new : List (List ℕ)) → Type 0
IsSaved true rom all machine entries old new =
    Adds entries (content old) (content new) × (log_of (content new) ≡ grown (log_of (content old)) entries) × (generation_in new ≡ generation_in old)
IsSaved false rom all machine entries old new =
    (content new ≡ Some (new_generation (sha256 rom) all (encoded machine))) × (generation_in new ≡ generation_in old + 1)

-- ---- answers

-- the most inputs that can be unsaved
abbrev pub most_unsaved : ℕ
most_unsaved = 3200

-- to an input, with so many unsaved and so many inputs in all
abbrev pub input_answer : (broken : Bool) → (pending all : ℕ) → Result Unit SessionError
input_answer broken pending all =
    if broken then Err Broken else (if pending == most_unsaved then Err SaveFirst else (if all == 2 ^ 64 - 1 then Err CountFull else Ok tt))

-- to the snapshot of a machine, where an input would be answered so: the first fault of bytes that are no snapshot of this ROM
abbrev pub IsRestoreAnswer : (rom bytes : List ℕ) → (taken : Result Unit SessionError) → Result Unit SessionError → Type 0
IsRestoreAnswer rom bytes (Err why) answer = answer ≡ Err why
IsRestoreAnswer rom bytes (Ok done) (Ok same) = IsLegalSnapshot rom bytes
IsRestoreAnswer rom bytes (Ok done) (Err (Damaged (Snapshot fault))) = IsFault rom bytes fault
IsRestoreAnswer rom bytes (Ok done) (Err why) = ⊥

-- why nothing is saved: a call failed before; else the entries don't fit and the generations are used up; else a call failed
abbrev pub IsSaveCause : SessionError → (broken fits : Bool) → (generation : ℕ) → Type 0
IsSaveCause Broken broken fits generation = broken ≡ true
IsSaveCause GenerationsUsedUp broken fits generation = (broken ≡ false) × (fits ≡ false) × (generation ≡ 2 ^ 64 - 1)
IsSaveCause Device broken fits generation = (broken ≡ false) × ((fits ≡ true) ⊎ (generation < 2 ^ 64 - 1))
IsSaveCause why broken fits generation = ⊥

-- the device's count of failed calls after an answer: one more after `Device`, and after no other
abbrev pub faults_after : SessionError → ℕ → ℕ
faults_after Device faults = next_count faults
faults_after Memory faults = faults
faults_after NoSession faults = faults
faults_after (TooSmall needed) faults = faults
faults_after OtherCartridge faults = faults
faults_after (Damaged damage) faults = faults
faults_after GenerationsUsedUp faults = faults
faults_after Broken faults = faults
faults_after SaveFirst faults = faults
faults_after CountFull faults = faults
faults_after Output faults = faults
