-- What a recording keeps of its device, and the images that its writes make.
use Rattle.std.specs.Prelude.{◌≡◌, ◌++◌, ◌+◌, ◌-◌, ◌*◌, ◌<◌, ◌≤◌, ℕ, zero, suc, List, [], ◌∷◌, length, take, drop, slice_index_or, slice_set, Bool, true, false}
use Rattle.std.proofs.Props.{props}
use lib.ListN.{replicate}
use Rattle.sector_device.specs.DiskState.{DiskState, Settled, sector_at}
use Rattle.input_entries.specs.Inputs.{inputs, is_entry}
use Rattle.input_entries.specs.declared.StoredEntry.{StoredEntry}
use Rattle.recording.specs.Format.{blank, head, entries_at, list_sector}
use Rattle.recording.specs.Calls.{IsBlank}
use Rattle.recording.specs.Recorded.{entries}
use Rattle.recording.specs.Sizes.{entries_per_sector, list_sectors, list_sectors_in, sectors_for}

-- each entry has its six bytes and stands for inputs
pub record AreGood (list : List StoredEntry) : Type 0 where
  pub six : (k : ℕ) → k < length list → length (slice_index_or list k (record { code = [] })).code ≡ 6
  pub entry : (k : ℕ) → k < length list → is_entry (slice_index_or list k (record { code = [] })) ≡ true

-- the list of this image has this many full sectors, and then these entries
pub record EndsAt (image : List (List ℕ)) (full : ℕ) (tail : List StoredEntry) : Type 0 where
  pub each_full : (k : ℕ) → k < full → length (entries_at (k + 1) (sector_at (list_sectors image) k)) ≡ entries_per_sector
  pub tail_is : entries_at (full + 1) (sector_at (list_sectors image) full) ≡ tail
  pub within : full ≤ length (list_sectors image)

-- each sector from this one on is blank
abbrev pub BlankFrom : List (List ℕ) → ℕ → Type 0
BlankFrom image from = (k : ℕ) → from ≤ k → k < length image → sector_at image k ≡ blank

-- the image with blank sectors from this one on
abbrev pub blanked : ℕ → List (List ℕ) → List (List ℕ)
blanked from image = take from image ++ replicate (length image - from) blank

-- n sectors from this number on with these entries, as many in each as fit, and then blank ones
abbrev pub written : ℕ → ℕ → List StoredEntry → List (List ℕ)
written zero number list = []
written (suc n) number list = list_sector number (take entries_per_sector list) ∷ written n (suc number) (drop entries_per_sector list)

-- the image with these entries after so many full sectors of the list
unfoldable pub grown_image : ℕ → List StoredEntry → List (List ℕ) → List (List ℕ)
grown_image full list image = take (full + 1) image ++ written (length image - (full + 1)) (full + 1) list

-- what holds of the numbers and the last entries, whatever the device
pub record Kept (count full : ℕ) (tail : List StoredEntry) (input_count : ℕ) : Type 0 where
  pub placed : full + sectors_for (length tail) ≤ list_sectors_in count
  pub some : 1 ≤ count
  pub short : length tail < entries_per_sector
  pub good : AreGood tail
  pub counted : input_count ≤ 17928000 * full + length (inputs tail)

abbrev pub KeptUnlessBroken : ℕ → ℕ → List StoredEntry → ℕ → Bool → Type 0
KeptUnlessBroken count full tail input_count broken = broken ≡ false → Kept count full tail input_count

pub kept_prop : (count full : ℕ) (tail : List StoredEntry) (input_count : ℕ) (broken : Bool) → IsProp (KeptUnlessBroken count full tail input_count broken)
kept_prop count full tail input_count broken = hlevel props

-- one image is left, whose list ends here, and the sectors after it are blank if they are known to be
pub record IsStored (now : DiskState) (full : ℕ) (tail : List StoredEntry) (input_count : ℕ) (blank_after : Bool) : Type 0 where
  pub settled : Settled now
  pub ends : EndsAt now.sectors full tail
  pub counted : input_count ≡ length (inputs (entries now.sectors))
  pub blank : blank_after ≡ true → BlankFrom now.sectors (1 + full + sectors_for (length tail))

abbrev pub StoredUnlessBroken : DiskState → ℕ → List StoredEntry → ℕ → Bool → Bool → Type 0
StoredUnlessBroken now full tail input_count blank_after broken = broken ≡ false → now.honest → IsStored now full tail input_count blank_after

pub stored_prop : (now : DiskState) (full : ℕ) (tail : List StoredEntry) (input_count : ℕ) (blank_after broken : Bool) → IsProp (StoredUnlessBroken now full tail input_count blank_after broken)
stored_prop now full tail input_count blank_after broken = hlevel props

-- So many sectors are full once these entries stand after `full` full ones, and these are the last.
pub record HasPacked (full : ℕ) (list : List StoredEntry) (now : ℕ) (tail : List StoredEntry) : Type 0 where
  pub later : full ≤ now
  pub short : length tail < entries_per_sector
  pub good : AreGood tail
  pub within : entries_per_sector * (now - full) ≤ length list
  pub is : list ≡ take (entries_per_sector * (now - full)) list ++ tail

-- the device was blank, and one image is left, with this head and no list
pub record HasBegun (old : List (List ℕ)) (now : DiskState) (id : List ℕ) : Type 0 where
  pub blank : IsBlank old
  pub settled : Settled now
  pub sectors_are : now.sectors ≡ slice_set old 0 (head id)
