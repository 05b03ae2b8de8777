-- Lines that look at a machine, and what they are answered.
use Rattle.std.specs.Prelude.{ℕ, ◌++◌, Bool, true, false, List, [], ◌∷◌, codes, if◌then◌else◌, Option, None, Some}
use Rattle.std.specs.Str.{bytes_eq}
use Rattle.machine.specs.Looking.{bytes_from, shades_of}
use Rattle.machine.specs.Machine.{MachineState, picture_rows}
use Rattle.picture_unit.specs.Pgm.{picture_text}
use Rattle.state_header.specs.States.{state_of}
use Rattle.machine_lines.specs.Texts.{count_line, memory_text, state_text}
use Rattle.machine_lines.specs.Words.{address_of, room_of}
use Rattle.machine_lines.specs.declared.looks.Look.{Look}
use Rattle.machine_lines.specs.declared.looks.Look.TheVariants.{Picture, Shades, State, Memory, Bytes}

-- ---- what a line looks at

-- at an address, where both words were read
abbrev pub look_at : (ℕ → ℕ → Look) → Option ℕ → Option ℕ → Option Look
look_at look (Some address) (Some count) = Some (look address count)
look_at look address count = None

-- `picture`, `shades`, `state`
abbrev pub look_of_one : List ℕ → Option Look
look_of_one name =
    if bytes_eq name (codes "picture") then Some Picture
    else (if bytes_eq name (codes "shades") then Some Shades
    else (if bytes_eq name (codes "state") then Some State else None))

-- `memory ADDR N`, `bytes ADDR N`
abbrev pub look_of_three : List ℕ → List ℕ → List ℕ → Option Look
look_of_three name word other =
    if bytes_eq name (codes "memory") then look_at Memory (address_of word) (room_of other)
    else (if bytes_eq name (codes "bytes") then look_at Bytes (address_of word) (room_of other) else None)

abbrev pub look_of : List (List ℕ) → Option Look
look_of (name ∷ []) = look_of_one name
look_of (name ∷ word ∷ other ∷ []) = look_of_three name word other
look_of words = None

-- it tells of the picture's rows
abbrev pub shows_picture : Look → Bool
shows_picture (Memory address count) = false
shows_picture (Bytes address count) = false
shows_picture look = true

-- ---- what it is answered

-- how many bytes, and the bytes
abbrev pub shades_text : (rows : List (List ℕ)) → List ℕ
shades_text rows = count_line (codes "shades") 23040 ++ shades_of rows

abbrev pub bytes_text : MachineState → (address count : ℕ) → List ℕ
bytes_text m address count = count_line (codes "bytes") count ++ bytes_from m address count

abbrev pub look_text : Look → MachineState → List ℕ
look_text Picture m = picture_text (picture_rows m)
look_text Shades m = shades_text (picture_rows m)
look_text State m = state_text (state_of m)
look_text (Memory address count) m = memory_text m address count
look_text (Bytes address count) m = bytes_text m address count
