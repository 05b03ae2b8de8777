-- What an image of a recording holds. This is what every promise of this crate is about.
use Rattle.std.specs.Prelude.{◌++◌, ℕ, zero, suc, List, [], if◌then◌else◌, Option, Some, None}
use Rattle.sector_device.specs.DiskState.{sector_at}
use Rattle.input_entries.specs.Inputs.{inputs}
use Rattle.input_entries.specs.declared.Entry.{Entry}
use Rattle.input_entries.specs.declared.StoredEntry.{StoredEntry}
use Rattle.recording.specs.Format.{is_head_of, entries_at, list_from}
use Rattle.recording.specs.Sizes.{list_sectors}

-- the entries of the list, whatever the head
unfoldable pub entries : List (List ℕ) → List StoredEntry
entries image = list_from 1 (list_sectors image)

-- The inputs that an image holds of the ROM with this SHA-256, the first of them first: none if its sector 0 is not the head of a
-- recording of this ROM.
unfoldable pub recorded : List ℕ → List (List ℕ) → Option (List Entry)
recorded id image = if is_head_of id (sector_at image 0) then Some (inputs (entries image)) else None

-- the entries of the first n sectors of the list
abbrev pub entries_up_to : ℕ → List (List ℕ) → List StoredEntry
entries_up_to zero image = []
entries_up_to (suc n) image = entries_up_to n image ++ entries_at (suc n) (sector_at image (suc n))
