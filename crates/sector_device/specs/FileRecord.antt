-- What is noted of a file: the sectors that were found as it was opened, and the writes and syncs since.
use Rattle.std.specs.Prelude.{◌++◌, ◌∷◌, [], ◌==◌, ℕ, List, slice_index, if◌then◌else◌}
use Rattle.sector_device.specs.declared.recorded.Recorded.{Recorded}
use Rattle.sector_device.specs.declared.recorded.Recorded.TheVariants.{Write, Sync}
use Rattle.sector_device.specs.declared.file_record.FileRecord.{FileRecord}

-- nothing was asked of it yet
abbrev pub unasked : List (List ℕ) → FileRecord
unasked held = record { marker = record {}; held = held; found = []; calls = [] }

abbrev pub noted_call : List ℕ → List ℕ → Recorded
noted_call numbers bytes =
    if slice_index numbers 0 == 1 then Write (slice_index numbers 1) bytes (slice_index numbers 2 == 1) else Sync (slice_index numbers 2 == 1)

abbrev pub noted : List ℕ → List ℕ → FileRecord → FileRecord
noted numbers bytes r = record {
  marker = r.marker;
  held = r.held;
  found = if slice_index numbers 0 == 0 then r.found ++ bytes ∷ [] else r.found;
  calls = if slice_index numbers 0 == 0 then r.calls else r.calls ++ noted_call numbers bytes ∷ [];
}

-- one call more
abbrev pub with_call : Recorded → FileRecord → FileRecord
with_call call r = record r { calls = r.calls ++ call ∷ [] }

-- one sector more was found
abbrev pub with_found : List ℕ → FileRecord → FileRecord
with_found sector r = record r { found = r.found ++ sector ∷ [] }
