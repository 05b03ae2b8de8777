-- What more inputs make of the entries that they come behind.
use Rattle.std.specs.Prelude.{◌&&◌, List, [], ◌∷◌, Bool, if◌then◌else◌, nat_lt, Option, Some, None}
use Rattle.input_entries.specs.Inputs.{joins, longer, single, run_length}
use Rattle.input_entries.specs.Sizes.{longest_run}
use Rattle.input_entries.specs.declared.Entry.{Entry}
use Rattle.input_entries.specs.declared.StoredEntry.{StoredEntry}

-- the input is one more frame of the run, which is not the longest
unfoldable pub lengthens : StoredEntry → Entry → Bool
lengthens s e = joins s e && nat_lt (run_length s) longest_run

-- one input more: a frame lengthens the last run if it is equal, and every other input is a new entry
abbrev pub with_input : List StoredEntry → Entry → List StoredEntry
with_input [] e = single e ∷ []
with_input (s ∷ []) e = if lengthens s e then longer s ∷ [] else s ∷ single e ∷ []
with_input (s ∷ t ∷ list) e = s ∷ with_input (t ∷ list) e

abbrev pub with_inputs : List StoredEntry → List Entry → List StoredEntry
with_inputs list [] = list
with_inputs list (e ∷ es) = with_inputs (with_input list e) es

-- the last entry
abbrev pub last_of : List StoredEntry → Option StoredEntry
last_of [] = None
last_of (s ∷ []) = Some s
last_of (s ∷ t ∷ list) = last_of (t ∷ list)
