-- The sizes of a log and of its sectors.
use Rattle.std.specs.Prelude.{◌*◌, ℕ}

-- how many entries fill a log sector of the second version, the only one that is written
abbrev pub entries_per_sector : ℕ
entries_per_sector = 84

-- how many entries fill a log sector of the first version, which is only read
abbrev pub entries_per_old_sector : ℕ
entries_per_old_sector = 100

-- the log sectors that an area begins with
abbrev pub log_sectors_per_area : ℕ
log_sectors_per_area = 32

-- the most entries of a log that is written: 84 in each of 32 sectors
abbrev pub most_entries : ℕ
most_entries = entries_per_sector * log_sectors_per_area

-- the most entries that are read of a log, of either version: 100 in each of 32 sectors
abbrev pub most_entries_read : ℕ
most_entries_read = entries_per_old_sector * log_sectors_per_area

-- the most inputs that a log stands for
abbrev pub most_inputs : ℕ
most_inputs = 216000
