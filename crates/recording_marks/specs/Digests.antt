-- The digest by which a mark knows a recording.
use Rattle.std.specs.Prelude.{◌≡◌, ◌≤◌, ◌-◌, ◌++◌, ℕ, List, [], ◌∷◌, length, take, Option, None, Some, ⊤}
use Rattle.sha2.specs.Sha256.{sha256}
use Rattle.sha2.specs.Hashers.{Holds256}
use Rattle.sha2.specs.declared.Sha256.{Sha256}
use Rattle.input_entries.specs.declared.Entry.{Entry}
use Rattle.sector_device.specs.DiskState.{DiskState}
use Rattle.recording.specs.Calls.{IsOpenCause, faults_after}
use Rattle.recording.specs.declared.fault.RecordingFault.TheVariants.{Device}
use Rattle.recording_marks.specs.declared.knowing.Known.{Known}
use Rattle.recording_marks.specs.declared.knowing.MarkFault.{MarkFault}
use Rattle.recording_marks.specs.declared.knowing.MarkFault.TheVariants.{Recording, Other}

-- the bytes of inputs, five each: `00`, buttons and three zeros for a frame, or `01` and the seconds, low byte first
abbrev pub bytes_of : List Entry → List ℕ
bytes_of [] = []
bytes_of (e ∷ es) = e.code ++ bytes_of es

-- the SHA-256 of the first inputs
abbrev pub digest_of : ℕ → List Entry → List ℕ
digest_of count es = sha256 (bytes_of (take count es))

-- these are the inputs of which this is known: there are as many at least, and the first have this digest
pub record IsKnown (known : Known) (es : List Entry) : Type 0 where
  pub enough : known.count ≤ length es
  pub same : known.digest ≡ digest_of known.count es

-- they are not
abbrev pub IsOther : Option Known → List Entry → Type 0
IsOther None es = ⊥
IsOther (Some known) es = ¬ (IsKnown known es)

-- why a recording is not taken for the one that is known, but for that it is another one: why none of this ROM is opened on the device
abbrev pub IsMarkCause : MarkFault → (id : List ℕ) → DiskState → Type 0
IsMarkCause (Recording why) id now = IsOpenCause why id now
IsMarkCause Other id now = ⊤

-- of one that was opened, a read fails
abbrev pub IsReadCause : MarkFault → Type 0
IsReadCause (Recording why) = why ≡ Device
IsReadCause Other = ⊤

-- the device's count of failed calls after it
abbrev pub mark_faults_after : MarkFault → ℕ → ℕ
mark_faults_after (Recording why) faults = faults_after why faults
mark_faults_after Other faults = faults

-- the hasher was given as many of these inputs as `most`, and so many more could still be given; a reader needs none of this
pub record HasHashed (old now : Sha256) (most left : ℕ) (es : List Entry) : Type 0 where
  pub hashed : (m : List ℕ) → Holds256 old m → Holds256 now (m ++ bytes_of (take most es))
  pub left_is : left ≡ most - length es
