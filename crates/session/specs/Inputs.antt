-- The entry of an input, and the input of an entry.
use Rattle.std.specs.Prelude.{◌==◌, ◌∷◌, [], Bool, List, map, take, drop, if◌then◌else◌}
use Rattle.std.specs.List.{list_all}
use Rattle.std.specs.Int.{w32, from_le_bytes}
use Rattle.machine.specs.Machine.{Input, Frame, Seconds, Power, State}
use Rattle.input_entries.specs.declared.Entry.{Entry}
use Rattle.input_entries.specs.declared.StoredEntry.{StoredEntry}
use Rattle.input_entries.specs.Inputs.{frame, seconds, inputs, is_input}
use Rattle.input_entries.specs.Bytes.{byte}

-- what stands among the unsaved inputs for one that no log holds: 02, which is no input of a log
abbrev pub no_input : Entry
no_input = record { code = 2 ∷ 0 ∷ 0 ∷ 0 ∷ 0 ∷ [] }

-- 00 and the buttons, or 01 and the seconds; the power switch and another machine have none
abbrev pub entry_of : Input → Entry
entry_of (Frame buttons) = frame buttons
entry_of (Seconds n) = seconds n
entry_of Power = no_input
entry_of (State machine) = no_input

-- each of them is a frame or seconds
abbrev pub can_be_logged : List Entry → Bool
can_be_logged entries = list_all is_input entries

-- the input of an entry that is one
abbrev pub input_of : Entry → Input
input_of entry = if byte 0 entry.code == 0 then Frame (byte 1 entry.code) else Seconds (from_le_bytes w32 (take 4 (drop 1 entry.code)))

abbrev pub inputs_of : List Entry → List Input
inputs_of entries = map input_of entries

-- the inputs that a log stands for, each frame of a run as one
abbrev pub logged : List StoredEntry → List Input
logged log = inputs_of (inputs log)
