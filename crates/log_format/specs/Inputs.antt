-- The entries of a log: how many inputs they count, and which is the first that is none.
use Rattle.std.specs.Prelude.{◌≡◌, ◌&&◌, ◌+◌, ◌≤◌, ◌<◌, ℕ, List, [], ◌∷◌, length, slice_index_or, if◌then◌else◌, nat_le, Option, Some, None}
use Rattle.input_entries.specs.Inputs.{inputs, inputs_in, is_entry, all_entries}
use Rattle.log_format.specs.Sizes.{most_inputs}
use Rattle.input_entries.specs.declared.StoredEntry.{StoredEntry}

-- each entry of a log is an input, and a log holds at most 216,000 of them
pub record AreInputs (log : List StoredEntry) : Type 0 where
  pub each : all_entries log
  pub few : length (inputs log) ≤ most_inputs

-- each entry has its six bytes
abbrev pub HaveSix : List StoredEntry → Type 0
HaveSix log = (k : ℕ) → k < length log → length (slice_index_or log k (record { code = [] })).code ≡ 6

-- how many inputs a log counts from so many on: one for an entry that is no input, or with which there would be too many
abbrev pub counted : ℕ → List StoredEntry → ℕ
counted before [] = before
counted before (s ∷ log) = counted (before + (if is_entry s && nat_le (before + length (inputs_in s)) most_inputs then length (inputs_in s) else 1)) log

-- the index of the first entry that is no input, or with which there would be more than 216,000; `before` inputs stand
-- before these
abbrev pub wrong_from : ℕ → ℕ → List StoredEntry → Option ℕ
wrong_from index before [] = None
wrong_from index before (s ∷ log) =
    if is_entry s && nat_le (before + length (inputs_in s)) most_inputs then wrong_from (index + 1) (before + length (inputs_in s)) log else Some index

abbrev pub first_wrong : List StoredEntry → Option ℕ
first_wrong log = wrong_from 0 0 log
