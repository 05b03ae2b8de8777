-- What the calls of a log make of a device, by the content of its images.
use Rattle.std.specs.Prelude.{◌≡◌, ◌⊎◌, ◌^◌, ◌+◌, ◌-◌, ◌/◌, ◌≤◌, ◌<◌, ℕ, List, length, Some, Bool, true, false}
use Rattle.sector_device.specs.DiskState.{DiskState, Settled, next_count, sector_at}
use Rattle.log_format.specs.Appends.{Adds}
use Rattle.log_format.specs.Content.{area_start, content, generation_in, new_generation, need, Holds}
use Rattle.log_format.specs.Sizes.{entries_per_sector, log_sectors_per_area}
use Rattle.input_entries.specs.declared.Entry.{Entry}
use Rattle.sector_log.specs.declared.fault.LogFault.{LogFault}
use Rattle.sector_log.specs.declared.fault.LogFault.TheVariants.{Memory, Device, TooSmall, GenerationsUsedUp, LogFull, Broken}

-- ---- a new generation

-- the image has the old content, or the new one in the next generation
abbrev pub HasOldOrNewContent : List (List ℕ) → List ℕ → ℕ → List ℕ → List (List ℕ) → Type 0
HasOldOrNewContent old id base blob image =
    Holds (generation_in old) (content old) image ⊎ Holds (generation_in old + 1) (Some (new_generation id base blob)) image

-- one image is left, with the new content in the next generation
pub record HasBegun (old now : DiskState) (id : List ℕ) (base : ℕ) (blob : List ℕ) : Type 0 where
  pub settled : Settled now
  pub holds : Holds (generation_in old.sectors + 1) (Some (new_generation id base blob)) now.sectors

-- a device of so many sectors, whose generation is this one, can take a new one with a blob of this length
pub record CanBegin (blob_length count last : ℕ) : Type 0 where
  pub enough : need blob_length ≤ count
  pub unworn : last < 2 ^ 64 - 1

-- why no generation is begun: too few sectors, else the generations are used up, else a failed call
abbrev pub IsBeginCause : LogFault → ℕ → ℕ → ℕ → Type 0
IsBeginCause (TooSmall needed) blob_length count last = (needed ≡ need blob_length) × (count < need blob_length)
IsBeginCause GenerationsUsedUp blob_length count last = (need blob_length ≤ count) × (last ≡ 2 ^ 64 - 1)
IsBeginCause Device blob_length count last = CanBegin blob_length count last
IsBeginCause why blob_length count last = ⊥

-- the same for a store that a failed call may have broken
abbrev pub IsReplaceCause : LogFault → Bool → ℕ → ℕ → ℕ → Type 0
IsReplaceCause Broken broken blob_length count last = broken ≡ true
IsReplaceCause why broken blob_length count last = (broken ≡ false) × IsBeginCause why blob_length count last

-- ---- an append

-- one image is left, with all these inputs after the log of what reads gave
pub record IsAppended (old now : DiskState) (more : List Entry) : Type 0 where
  pub settled : Settled now
  pub adds : Adds more (content old.sectors) (content now.sectors)
  pub generation_is : generation_in now.sectors ≡ generation_in old.sectors

-- Each sector is the old one, but for those of the chosen area's log from the one in which a log of so many entries ends on.
-- So no full sector has changed.
pub record ChangesOpenLog (old : List (List ℕ)) (entries : ℕ) (image : List (List ℕ)) : Type 0 where
  pub size : length image ≡ length old
  pub each : (k : ℕ) → (sector_at image k ≡ sector_at old k)
      ⊎ ((area_start (generation_in old) old + entries / entries_per_sector ≤ k) × (k < area_start (generation_in old) old + log_sectors_per_area))

-- why nothing, or not everything, is appended: a call failed before, else the inputs don't fit, else a call fails now
abbrev pub IsAppendCause : LogFault → Bool → Bool → Type 0
IsAppendCause Broken broken fits = broken ≡ true
IsAppendCause LogFull broken fits = (broken ≡ false) × (fits ≡ false)
IsAppendCause Device broken fits = (broken ≡ false) × (fits ≡ true)
IsAppendCause why broken fits = ⊥

-- ---- faults

-- the count of failed calls after an answer: one more after `Device`, and after no other
abbrev pub faults_after : LogFault → ℕ → ℕ
faults_after Device faults = next_count faults
faults_after Memory faults = faults
faults_after (TooSmall needed) faults = faults
faults_after GenerationsUsedUp faults = faults
faults_after LogFull faults = faults
faults_after Broken faults = faults
