-- Whether more inputs fit the sectors behind the entries of the last one.
use Rattle.std.specs.Prelude.{◌*◌, ◌-◌, ◌/◌, ℕ, List, length, drop, Bool, nat_le}
use Rattle.input_entries.specs.Growing.{with_inputs}
use Rattle.input_entries.specs.declared.Entry.{Entry}
use Rattle.input_entries.specs.declared.StoredEntry.{StoredEntry}
use Rattle.recording.specs.Recorded.{entries}
use Rattle.recording.specs.Sizes.{entries_per_sector, list_sectors_in}

-- the entries after the full sectors, with these inputs after them, fit this many sectors
unfoldable pub fits : List StoredEntry → ℕ → List Entry → Bool
fits tail sectors more = nat_le (length (with_inputs tail more)) (entries_per_sector * sectors)

-- how many sectors of an image's list are full
abbrev pub full_sectors : List (List ℕ) → ℕ
full_sectors image = length (entries image) / entries_per_sector

-- the entries after them
abbrev pub last_entries : List (List ℕ) → List StoredEntry
last_entries image = drop (entries_per_sector * full_sectors image) (entries image)

-- the image has sectors enough for these inputs after those that it holds
unfoldable pub fits_image : List (List ℕ) → List Entry → Bool
fits_image image more = fits (last_entries image) (list_sectors_in (length image) - full_sectors image) more
