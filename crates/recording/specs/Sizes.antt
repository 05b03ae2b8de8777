-- The sizes of a recording.
use Rattle.std.specs.Prelude.{◌+◌, ◌-◌, ◌/◌, ◌^◌, ℕ, List, take, drop, min}

-- how many entries fill a sector of the list
abbrev pub entries_per_sector : ℕ
entries_per_sector = 83

-- how many sectors this many entries take
abbrev pub sectors_for : ℕ → ℕ
sectors_for entries = (entries + (entries_per_sector - 1)) / entries_per_sector

-- the most sectors of a list: their numbers have four bytes and begin with 1
unfoldable pub most_sectors : ℕ
most_sectors = 2 ^ 32 - 1

-- the sectors that a device of so many sectors has for the list: all but the first
abbrev pub list_sectors_in : ℕ → ℕ
list_sectors_in count = min (count - 1) most_sectors

-- those of an image
abbrev pub list_sectors : List (List ℕ) → List (List ℕ)
list_sectors image = take most_sectors (drop 1 image)
