-- What the calls of a recording make of a device, by what its images hold.
use Rattle.std.specs.Prelude.{◌≡◌, ◌⊎◌, ◌++◌, ◌<◌, ◌≤◌, ℕ, List, [], length, take, Option, Some, None, Bool, true, false}
use Rattle.sector_device.specs.DiskState.{DiskState, Settled, next_count, sector_at}
use Rattle.input_entries.specs.declared.Entry.{Entry}
use Rattle.recording.specs.Format.{is_head, is_head_of, blank}
use Rattle.recording.specs.Recorded.{recorded}
use Rattle.recording.specs.declared.fault.RecordingFault.{RecordingFault}
use Rattle.recording.specs.declared.fault.RecordingFault.TheVariants.{Memory, Device, TooSmall, NotBlank, NoRecording, OtherCartridge, Full, Broken}

-- ---- creating

-- each sector is blank
abbrev pub IsBlank : List (List ℕ) → Type 0
IsBlank image = (k : ℕ) → k < length image → sector_at image k ≡ blank

-- the image is one that stood before, or an empty recording of this ROM
abbrev pub IsOldOrEmpty : DiskState → List ℕ → List (List ℕ) → Type 0
IsOldOrEmpty old id image = old.image image ⊎ (recorded id image ≡ Some [])

-- ---- an append

-- what is recorded, with these inputs after it
abbrev pub with_more : List Entry → Option (List Entry) → Option (List Entry)
with_more more None = None
with_more more (Some before) = Some (before ++ more)

-- the image holds what the old one holds, of whatever ROM, with a prefix of these inputs after it
pub record HoldsPrefix (old : List (List ℕ)) (more : List Entry) (image : List (List ℕ)) : Type 0 where
  pub count : ℕ
  pub within : count ≤ length more
  pub adds : (id : List ℕ) → recorded id image ≡ with_more (take count more) (recorded id old)

-- one image is left, with all these inputs after what reads gave
pub record IsAppended (old now : DiskState) (more : List Entry) : Type 0 where
  pub settled : Settled now
  pub adds : (id : List ℕ) → recorded id now.sectors ≡ with_more more (recorded id old.sectors)

-- the head and the sectors of the list that are full are the old ones
pub record KeepsFull (old : List (List ℕ)) (full : ℕ) (image : List (List ℕ)) : Type 0 where
  pub size : length image ≡ length old
  pub each : (k : ℕ) → k ≤ full → sector_at image k ≡ sector_at old k

-- ---- causes

-- why no recording is created, the first that holds of what reads give: too few sectors, one that is not blank, else a failed call
abbrev pub IsCreateCause : RecordingFault → DiskState → Type 0
IsCreateCause Memory now = Unit {0}
IsCreateCause TooSmall now = length now.sectors < 2
IsCreateCause NotBlank now = (2 ≤ length now.sectors) × (now.honest → IsBlank now.sectors → ⊥)
IsCreateCause Device now = 2 ≤ length now.sectors
IsCreateCause why now = ⊥

-- why sector 0 is not the head that is asked for
abbrev pub IsHeadCause : RecordingFault → List ℕ → DiskState → Type 0
IsHeadCause NoRecording id now = now.honest → is_head (sector_at now.sectors 0) ≡ false
IsHeadCause OtherCartridge id now = now.honest → (is_head (sector_at now.sectors 0) ≡ true) × (is_head_of id (sector_at now.sectors 0) ≡ false)
IsHeadCause Device id now = Unit {0}
IsHeadCause why id now = ⊥

-- why none is opened: want of memory, else that
abbrev pub IsOpenCause : RecordingFault → List ℕ → DiskState → Type 0
IsOpenCause Memory id now = Unit {0}
IsOpenCause why id now = IsHeadCause why id now

-- why nothing, or not everything, is appended: a call failed before, else the inputs don't fit, else a call fails now
abbrev pub IsAppendCause : RecordingFault → Bool → Bool → Type 0
IsAppendCause Broken broken fits = broken ≡ true
IsAppendCause Full broken fits = (broken ≡ false) × (fits ≡ false)
IsAppendCause Device broken fits = (broken ≡ false) × (fits ≡ true)
IsAppendCause why broken fits = ⊥

-- why a sector of the list is not read
abbrev pub IsReadCause : RecordingFault → Bool → Type 0
IsReadCause Broken broken = broken ≡ true
IsReadCause Device broken = broken ≡ false
IsReadCause why broken = ⊥

-- ---- faults

-- the count of failed calls after an answer: one more after `Device`, and after no other
abbrev pub faults_after : RecordingFault → ℕ → ℕ
faults_after Device faults = next_count faults
faults_after Memory faults = faults
faults_after TooSmall faults = faults
faults_after NotBlank faults = faults
faults_after NoRecording faults = faults
faults_after OtherCartridge faults = faults
faults_after Full faults = faults
faults_after Broken faults = faults
