-- The inputs that entries stand for: an entry is a run of equal frames, or seconds.
use Rattle.std.specs.Prelude.{◌≡◌, ◌==◌, ◌&&◌, ◌||◌, ◌++◌, ◌+◌, ◌^◌, ◌<◌, ◌≤◌, ℕ, List, [], ◌∷◌, length, take, drop, Bool, true, if◌then◌else◌, nat_le}
use Rattle.std.specs.Int.{w32, to_le_bytes, from_le_bytes}
use lib.ListN.{replicate}
use Rattle.input_entries.specs.Bytes.{byte, zeros}
use Rattle.input_entries.specs.Sizes.{longest_run}
use Rattle.input_entries.specs.declared.Entry.{Entry}
use Rattle.input_entries.specs.declared.StoredEntry.{StoredEntry}
use Rattle.input_entries.specs.declared.logged.Logged.{Logged}
use Rattle.input_entries.specs.declared.logged.Logged.TheVariants.{Frames, Seconds}

-- a frame with these buttons
abbrev pub frame : ℕ → Entry
frame buttons = record { code = 0 ∷ buttons ∷ 0 ∷ 0 ∷ 0 ∷ [] }

-- so many seconds
abbrev pub seconds : ℕ → Entry
seconds n = record { code = 1 ∷ to_le_bytes w32 n }

-- each input has its five bytes
abbrev pub AllFive : List Entry → Type 0
AllFive [] = Unit {0}
AllFive (e ∷ es) = (length e.code ≡ 5) × AllFive es

-- a frame or seconds
unfoldable pub is_input : Entry → Bool
is_input e = byte 0 e.code == 1 || (byte 0 e.code == 0 && zeros (drop 2 e.code))

abbrev pub all_input : List Entry → Type 0
all_input [] = Unit {0}
all_input (e ∷ es) = (is_input e ≡ true) × all_input es

abbrev pub run_length : StoredEntry → ℕ
run_length s = from_le_bytes w32 (drop 2 s.code)

abbrev pub is_run : StoredEntry → Bool
is_run s = byte 0 s.code == 0 && nat_le 1 (run_length s) && nat_le (run_length s) longest_run

abbrev pub is_seconds : StoredEntry → Bool
is_seconds s = byte 0 s.code == 1 && byte 5 s.code == 0

-- an entry that stands for inputs
unfoldable pub is_entry : StoredEntry → Bool
is_entry s = is_run s || is_seconds s

-- what an entry stands for; any that is no run counts as one input
unfoldable pub inputs_in : StoredEntry → List Entry
inputs_in s = if is_run s then replicate (run_length s) (frame (byte 1 s.code)) else record { code = take 5 s.code } ∷ []

-- the inputs of an entry by what it stands for
abbrev pub inputs_logged : Logged → List Entry
inputs_logged (Frames buttons times) = replicate times (frame buttons)
inputs_logged (Seconds n) = seconds n ∷ []

-- a run has 1 to 216,000 frames, and seconds fit 32 bits
abbrev pub HasFewTimes : Logged → Type 0
HasFewTimes (Frames buttons times) = (1 ≤ times) × (times ≤ longest_run)
HasFewTimes (Seconds n) = n < 2 ^ 32

abbrev pub inputs : List StoredEntry → List Entry
inputs [] = []
inputs (s ∷ log) = inputs_in s ++ inputs log

abbrev pub all_entries : List StoredEntry → Type 0
all_entries [] = Unit {0}
all_entries (s ∷ log) = (is_entry s ≡ true) × all_entries log

-- an entry for one input
unfoldable pub single : Entry → StoredEntry
single e = record { code = if byte 0 e.code == 0 then 0 ∷ byte 1 e.code ∷ to_le_bytes w32 1 else e.code ++ 0 ∷ [] }

-- the input is one more frame of the run
unfoldable pub joins : StoredEntry → Entry → Bool
joins s e = byte 0 s.code == 0 && byte 0 e.code == 0 && byte 1 s.code == byte 1 e.code

-- a run with one frame more
unfoldable pub longer : StoredEntry → StoredEntry
longer s = record { code = 0 ∷ byte 1 s.code ∷ to_le_bytes w32 (run_length s + 1) }
