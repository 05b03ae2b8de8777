-- Laws of the layout, each proved by the contract of a function.
use Rattle.std.specs.Prelude.{◌≡◌, ◌⊎◌, ◌↔◌, ◌++◌, ◌+◌, ◌-◌, ◌/◌, ◌<◌, ◌≤◌, ℕ, List, length, take, slice_set, Some, None, true}
use lib.ListN.{replicate}
use Rattle.sector_device.specs.DiskState.{IsSized, sector_at}
use Rattle.log_format.specs.Log.{log_from, log_area}
use Rattle.log_format.specs.Appends.{HoldsPrefix, grown, fits}
use Rattle.log_format.specs.Content.{ImageContent, Body, content, generation_in, chosen, area, area_start, area_length, blob_sectors, need}
use Rattle.input_entries.specs.Inputs.{inputs, all_input, AllFive}
use Rattle.log_format.specs.Inputs.{AreInputs, counted, first_wrong}
use Rattle.log_format.specs.Sizes.{entries_per_sector, log_sectors_per_area}
use Rattle.log_format.specs.Inputs.{HaveSix}
use Rattle.input_entries.specs.declared.Entry.{Entry}
use Rattle.input_entries.specs.declared.StoredEntry.{StoredEntry}
use Rattle.log_format.specs.declared.root.Root.{Root}
use Rattle.log_format.specs.declared.root.Version.TheVariants.{Two}

-- This is the log of an area's log sectors, and every one after the sector that it ends in is blank. Of that sector only
-- what it is read as is asked.
pub record EndsOpen (olds : List (List ℕ)) (log : List StoredEntry) : Type 0 where
  pub area : length olds ≡ log_sectors_per_area
  pub is : log_from Two 0 olds ≡ log
  pub blank : (k : ℕ) → length log / entries_per_sector < k → k < log_sectors_per_area → sector_at olds k ≡ replicate 512 0
  pub six : HaveSix log
  pub are : AreInputs log

-- any of the writes of one append were made: they begin with the sector that the log ends in
pub record AnyWritten (olds : List (List ℕ)) (log : List StoredEntry) (more : List Entry) (now : List (List ℕ)) : Type 0 where
  pub size : length now ≡ log_sectors_per_area
  pub full : (k : ℕ) → k < length log / entries_per_sector → sector_at now k ≡ sector_at olds k
  pub each : (k : ℕ) → length log / entries_per_sector ≤ k → k < log_sectors_per_area → (sector_at now k ≡ sector_at olds k) ⊎ (sector_at now k ≡ sector_at (log_area (grown log more)) k)

-- a log of the same inputs and a prefix of these
pub record ExtendsBy (log : List StoredEntry) (more : List Entry) (now : List StoredEntry) : Type 0 where
  pub count : ℕ
  pub within : count ≤ length more
  pub are : AreInputs now
  pub extends : inputs now ≡ inputs log ++ take count more

-- after any of the writes of one append, the log is the old one and a prefix of the new inputs
abbrev pub AnAppendAddsAPrefixToTheLog : Type 0
AnAppendAddsAPrefixToTheLog =
    (olds now : List (List ℕ)) (log : List StoredEntry) (more : List Entry) → EndsOpen olds log → AllFive more → all_input more → fits log more ≡ true → AnyWritten olds log more now
    → ExtendsBy log more (log_from Two 0 now)

-- The chosen root of the image is of the second version, its blob fits its area, and its log ends open.
pub record IsOpenEnded (image : List (List ℕ)) (root : Root) (log : List StoredEntry) : Type 0 where
  pub chosen_is : chosen image ≡ Some root
  pub version_is : root.version ≡ Two
  pub fits : log_sectors_per_area + blob_sectors root.blob_length ≤ area_length image
  pub ends : EndsOpen (take log_sectors_per_area (area root.generation image)) log

-- the first sector that an append to this log writes
abbrev pub first_written : Root → List StoredEntry → List (List ℕ) → ℕ
first_written root log image = area_start root.generation image + length log / entries_per_sector

-- each sector is the old one, or one that an append of these inputs writes there
pub record IsInAppend (old : List (List ℕ)) (root : Root) (log : List StoredEntry) (more : List Entry) (now : List (List ℕ)) : Type 0 where
  pub size : length now ≡ length old
  pub each : (k : ℕ) → (sector_at now k ≡ sector_at old k)
      ⊎ ((first_written root log old ≤ k) × (k < area_start root.generation old + log_sectors_per_area) × (sector_at now k ≡ sector_at (log_area (grown log more)) (k - area_start root.generation old)))

-- and the image has the old content with a prefix of the inputs after its log
abbrev pub AnAppendAddsAPrefix : Type 0
AnAppendAddsAPrefix =
    (old now : List (List ℕ)) (root : Root) (log : List StoredEntry) (more : List Entry) → IsOpenEnded old root log → AllFive more → all_input more → fits log more ≡ true → IsInAppend old root log more now
    → HoldsPrefix old more now

-- a write outside the roots and outside the chosen root's area leaves the content
abbrev pub AWriteOutsideKeepsTheContent : Type 0
AWriteOutsideKeepsTheContent =
    (image : List (List ℕ)) (at : ℕ) (bytes : List ℕ) → 2 ≤ at
    → ((root : Root) → chosen image ≡ Some root → (at < area_start root.generation image) ⊎ (area_start root.generation image + area_length image ≤ at))
    → (content (slice_set image at bytes) ≡ content image) × (generation_in (slice_set image at bytes) ≡ generation_in image)

-- a blob that is found whole fits the device again
abbrev pub AFoundBlobFits : Type 0
AFoundBlobFits = (image : List (List ℕ)) (held : ImageContent) (body : Body) → content image ≡ Some held → held.body ≡ Some body → need held.header.blob_length ≤ length image

-- a log of inputs counts as many as it stands for
abbrev pub ALogOfInputsCountsThem : Type 0
ALogOfInputsCountsThem = (log : List StoredEntry) → AreInputs log → counted 0 log ≡ length (inputs log)

-- a blob that is found whole has the length that its root says
abbrev pub AFoundBlobHasItsLength : Type 0
AFoundBlobHasItsLength =
    (image : List (List ℕ)) (held : ImageContent) (body : Body) → IsSized (length image) image → content image ≡ Some held → held.body ≡ Some body → length body.blob ≡ held.header.blob_length

-- a log has no wrong entry exactly if it is one of inputs
abbrev pub ALogOfInputsHasNoneWrong : Type 0
ALogOfInputsHasNoneWrong = (log : List StoredEntry) → (first_wrong log ≡ None) ↔ AreInputs log
