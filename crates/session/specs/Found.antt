-- Why a game is not taken up: the first reason that holds of what is found.
use Rattle.std.specs.Prelude.{◌≡◌, ◌≢◌, ◌≤◌, ◌<◌, ◌+◌, ◌-◌, ◌^◌, ℕ, List, Option, Some, None, ⊤}
use Rattle.sha2.specs.Sha256.{sha256}
use Rattle.snapshot.specs.declared.error.SnapError.TheVariants.{Memory as NoMemory}
use Rattle.snapshot.specs.Legal.{IsLegalSnapshot, IsRefusal}
use Rattle.log_format.specs.Content.{ImageContent, Body, need}
use Rattle.log_format.specs.Inputs.{counted, first_wrong}
use Rattle.log_format.specs.declared.content.Header.{Header}
use Rattle.session.specs.declared.error.Damage.{Damage}
use Rattle.session.specs.declared.error.Damage.TheVariants.{Count, Snapshot, Entry}
use Rattle.session.specs.declared.error.SessionError.{SessionError}
use Rattle.session.specs.declared.error.SessionError.TheVariants.{Memory, Device, NoSession, TooSmall, OtherCartridge, Damaged, GenerationsUsedUp}

-- the blob does not fit an area, which would need so many sectors
pub record IsShort (held : Option ImageContent) (needed : ℕ) : Type 0 where
  pub header : Header
  pub is : held ≡ Some (record { header = header; body = None })
  pub needed_is : needed ≡ need header.blob_length

-- the blob fits, and this holds of header and body
pub record IsWhole (held : Option ImageContent) (P : Header → Body → Type 0) : Type 0 where
  pub header : Header
  pub body : Body
  pub is : held ≡ Some (record { header = header; body = Some body })
  pub holds : P header body

-- the content is of this ROM
abbrev pub IsOfRom : (rom : List ℕ) → Header → Type 0
IsOfRom rom header = header.id ≡ sha256 rom

-- it is of this ROM, and its inputs can be counted
abbrev pub IsCounted : (rom : List ℕ) → Header → Body → Type 0
IsCounted rom header body = IsOfRom rom header × (header.base + counted 0 body.log < 2 ^ 64)

-- so it is, and the blob is a legal snapshot
abbrev pub HasSnapshot : (rom : List ℕ) → Header → Body → Type 0
HasSnapshot rom header body = IsCounted rom header body × IsLegalSnapshot rom body.blob

-- each damage comes only where nothing before it holds
abbrev pub IsDamaged : (rom : List ℕ) → Option ImageContent → Damage → Type 0
IsDamaged rom held Count = IsWhole held (λ header body. IsOfRom rom header × (2 ^ 64 ≤ header.base + counted 0 body.log))
IsDamaged rom held (Snapshot error) = IsWhole held (λ header body. IsCounted rom header body × IsRefusal rom body.blob error × (error ≢ NoMemory))
IsDamaged rom held (Entry index) = IsWhole held (λ header body. HasSnapshot rom header body × (first_wrong body.log ≡ Some index))

-- The first reason that holds: no valid root; a blob that does not fit; another ROM; the damages, in their order; the
-- generations used up. Nothing is said of running out of memory, nor of a failed call.
abbrev pub IsResumeCause : (rom : List ℕ) → (generation : ℕ) → Option ImageContent → SessionError → Type 0
IsResumeCause rom generation held Memory = ⊤
IsResumeCause rom generation held Device = ⊤
IsResumeCause rom generation held NoSession = held ≡ None
IsResumeCause rom generation held (TooSmall needed) = IsShort held needed
IsResumeCause rom generation held OtherCartridge = IsWhole held (λ header body. ¬ (IsOfRom rom header))
IsResumeCause rom generation held (Damaged damage) = IsDamaged rom held damage
IsResumeCause rom generation held GenerationsUsedUp = IsWhole held (λ header body. HasSnapshot rom header body × (first_wrong body.log ≡ None) × (generation ≡ 2 ^ 64 - 1))
IsResumeCause rom generation held why = ⊥

-- why a game is not looked at: as it is not taken up, but that generations used up are no reason
abbrev pub IsLookCause : (rom : List ℕ) → Option ImageContent → SessionError → Type 0
IsLookCause rom held GenerationsUsedUp = ⊥
IsLookCause rom held why = IsResumeCause rom 0 held why

-- why a game that was looked at is not taken up: the generations used up, else a failed call; nothing is said of running out
-- of memory
abbrev pub IsTakeUpCause : (generation : ℕ) → SessionError → Type 0
IsTakeUpCause generation Memory = ⊤
IsTakeUpCause generation Device = generation < 2 ^ 64 - 1
IsTakeUpCause generation GenerationsUsedUp = generation ≡ 2 ^ 64 - 1
IsTakeUpCause generation why = ⊥

-- why no new game is begun on a device of so many sectors; nothing is said of running out of memory, nor of a failed call
abbrev pub IsNewGameCause : (blob_length count : ℕ) → SessionError → Type 0
IsNewGameCause blob_length count Memory = ⊤
IsNewGameCause blob_length count Device = ⊤
IsNewGameCause blob_length count (TooSmall needed) = (needed ≡ need blob_length) × (count < need blob_length)
IsNewGameCause blob_length count GenerationsUsedUp = need blob_length ≤ count
IsNewGameCause blob_length count why = ⊥
