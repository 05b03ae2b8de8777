-- What a line asks a debugger for: a move of a script but no save, or one of the words below. Words are separated by exactly one space.
use Rattle.std.specs.Prelude.{ℕ, ◌&&◌, ◌||◌, ◌==◌, Bool, true, false, List, [], ◌∷◌, codes, length, nat_le, if◌then◌else◌, Option, None, Some}
use Rattle.std.specs.List.{slice_split}
use Rattle.std.specs.Option.{option_map}
use Rattle.std.specs.Str.{bytes_eq}
use Rattle.script.specs.declared.moves.Move.{Move}
use Rattle.script.specs.declared.moves.Move.TheVariants.{Frames as FramesMove, Seconds as SecondsMove, Save, Power as PowerMove}
use Rattle.script.specs.Line.{byte_of, count_of, move_of_line, words_of}
use Rattle.debugging.specs.declared.order.Place.{Place}
use Rattle.debugging.specs.declared.order.Span.{Span}
use Rattle.debugging.specs.declared.order.Order.{Order}
use Rattle.debugging.specs.declared.order.Order.TheVariants.{Frames, Seconds, Step, Until, Continue, Set, SetRegister, Registers, History, List as Listing, Look as Looks, Bank, Serial, Digest, Position}
use Rattle.debugging.specs.declared.order.Condition.{Condition}
use Rattle.debugging.specs.declared.order.Condition.TheVariants.{At, Runs, Reads, Writes, Changes}
use Rattle.debugging.specs.Setting.{register_of}
use Rattle.debugging.specs.declared.order.StateOrder.{StateOrder}
use Rattle.debugging.specs.declared.order.StateOrder.TheVariants.{Power, Keep, Back, Profile}
use Rattle.machine_lines.specs.Looks.{look_of}
use Rattle.machine_lines.specs.declared.looks.Look.{Look}
use Rattle.machine_lines.specs.Words.{hex_of, address_of, room_of, slot_of, size_of}

-- ---- words

-- a place in one bank, where both words were read
abbrev pub place_in : Option ℕ → Option ℕ → Option Place
place_in (Some bank) (Some address) = Some (record { address = address; bank = Some bank })
place_in bank address = None

-- ADDR, in whichever bank, or BANK:ADDR
abbrev pub place_by : List (List ℕ) → Option Place
place_by (word ∷ []) = option_map (λ address. record { address = address; bank = None }) (address_of word)
place_by (bank ∷ word ∷ []) = place_in (hex_of 3 bank) (address_of word)
place_by words = None

-- a colon is 58
abbrev pub place_of : List ℕ → Option Place
place_of word = place_by (slice_split (λ byte. byte == 58) word)

-- from a first address to a last one that is not below it
abbrev pub span_of : Option ℕ → Option ℕ → Option Span
span_of (Some first) (Some last) = if nat_le first last then Some (record { first = first; last = last }) else None
span_of first last = None

-- ADDR, or ADDR-LAST
abbrev pub span_by : List (List ℕ) → Option Span
span_by (word ∷ []) = span_of (address_of word) (address_of word)
span_by (first ∷ last ∷ []) = span_of (address_of first) (address_of last)
span_by words = None

-- a dash is 45
abbrev pub span_in : List ℕ → Option Span
span_in word = span_by (slice_split (λ byte. byte == 45) word)

-- a count of steps
abbrev pub steps_of : List ℕ → Option ℕ
steps_of word = count_of 1 4294967295 word

-- ---- conditions

-- a condition of two words, by the first of them: `op XX`, `read ADDR[-LAST]`, `write ADDR[-LAST]`, `change ADDR`
abbrev pub is_kind : List ℕ → Bool
is_kind word = bytes_eq word (codes "op") || (bytes_eq word (codes "read") || (bytes_eq word (codes "write") || bytes_eq word (codes "change")))

abbrev pub condition_of : (kind word : List ℕ) → Option Condition
condition_of kind word =
    if bytes_eq kind (codes "op") then option_map Runs (byte_of word)
    else (if bytes_eq kind (codes "read") then option_map Reads (span_in word)
    else (if bytes_eq kind (codes "write") then option_map Writes (span_in word)
    else (if bytes_eq kind (codes "change") then option_map Changes (address_of word) else None)))

-- a first item and the rest, where both were read
abbrev pub both : Option Condition → Option (List Condition) → Option (List Condition)
both (Some first) (Some rest) = Some (first ∷ rest)
both first rest = None

-- the conditions that these words write, all of them: places, and those of two words where they may be mixed
abbrev pub all_conditions : (mixed : Bool) → List (List ℕ) → Option (List Condition)
all_conditions mixed [] = Some []
all_conditions mixed (word ∷ []) = both (option_map At (place_of word)) (Some [])
all_conditions mixed (first ∷ second ∷ rest) =
    if mixed && is_kind first then both (condition_of first second) (all_conditions mixed rest)
    else both (option_map At (place_of first)) (all_conditions mixed (second ∷ rest))

abbrev pub if_few : (least : ℕ) → Option (List Condition) → Option (List Condition)
if_few least None = None
if_few least (Some conditions) = if nat_le least (length conditions) && nat_le (length conditions) 16 then Some conditions else None

-- so many conditions at least, and sixteen at most
abbrev pub conditions_of : (least : ℕ) → (mixed : Bool) → List (List ℕ) → Option (List Condition)
conditions_of least mixed words = if_few least (all_conditions mixed words)

-- ---- orders

-- a run up to one condition
abbrev pub until_one : (ℕ → Condition) → ℕ → ℕ → Order
until_one condition steps operand = Until steps (record { items = condition operand ∷ [] })

abbrev pub with_span : (Span → Condition) → Option ℕ → Option Span → Option Order
with_span condition (Some steps) (Some span) = Some (Until steps (record { items = condition span ∷ [] }))
with_span condition steps span = None

-- an order of two words, where both were read
abbrev pub with_two : (ℕ → ℕ → Order) → Option ℕ → Option ℕ → Option Order
with_two order (Some first) (Some second) = Some (order first second)
with_two order first second = None

-- steps up to one of these conditions, where all was read
abbrev pub until_of : Option (List Condition) → Option ℕ → Option Order
until_of (Some conditions) (Some steps) = Some (Until steps (record { items = conditions }))
until_of (Some conditions) None = None
until_of None steps = None

abbrev pub continue_of : Option (List Condition) → Option ℕ → Option Order
continue_of (Some conditions) (Some steps) = Some (Continue steps (record { items = conditions }))
continue_of (Some conditions) None = None
continue_of None steps = None

-- frames or seconds: a save is no order, and the power switch one of the orders below
abbrev pub order_of_move : Move → Option Order
order_of_move (FramesMove buttons times) = Some (Frames buttons times)
order_of_move (SecondsMove count) = Some (Seconds count)
order_of_move Save = None
order_of_move PowerMove = None

-- `registers`, `serial`, `digest`, `position`
abbrev pub order_of_one : List ℕ → Option Order
order_of_one name =
    if bytes_eq name (codes "registers") then Some Registers
    else (if bytes_eq name (codes "serial") then Some Serial
    else (if bytes_eq name (codes "digest") then Some Digest
    else (if bytes_eq name (codes "position") then Some Position else None)))

-- `step N`, `history N`, `bank ADDR`
abbrev pub order_of_two : List ℕ → List ℕ → Option Order
order_of_two name word =
    if bytes_eq name (codes "step") then option_map Step (steps_of word)
    else (if bytes_eq name (codes "history") then option_map History (room_of word)
    else (if bytes_eq name (codes "bank") then option_map Bank (address_of word) else None))

-- `until-write N ADDR LAST`, `until-read N ADDR LAST`
abbrev pub order_of_span : List ℕ → List ℕ → List ℕ → List ℕ → Option Order
order_of_span name word first last =
    if bytes_eq name (codes "until-write") then with_span Writes (steps_of word) (span_of (address_of first) (address_of last))
    else (if bytes_eq name (codes "until-read") then with_span Reads (steps_of word) (span_of (address_of first) (address_of last)) else None)

-- `list ADDR N`, `until-op N XX`, `until-change N ADDR`, `set ADDR XX`, `set-register R XXXX`; `until-write N ADDR` and
-- `until-read N ADDR` of one address
abbrev pub order_of_three : List ℕ → List ℕ → List ℕ → Option Order
order_of_three name word other =
    if bytes_eq name (codes "list") then with_two Listing (address_of word) (room_of other)
    else (if bytes_eq name (codes "until-op") then with_two (until_one Runs) (steps_of word) (byte_of other)
    else (if bytes_eq name (codes "until-change") then with_two (until_one Changes) (steps_of word) (address_of other)
    else (if bytes_eq name (codes "set") then with_two Set (address_of word) (byte_of other)
    else (if bytes_eq name (codes "set-register") then option_map SetRegister (register_of word other)
    else order_of_span name word other other))))

-- `until N PLACE..`, of one to sixteen places
abbrev pub until_order : List ℕ → List (List ℕ) → Option Order
until_order count words = until_of (conditions_of 1 false words) (steps_of count)

-- `continue N CONDITION..`, of one to sixteen conditions
abbrev pub continue_order : List ℕ → List (List ℕ) → Option Order
continue_order count words = continue_of (conditions_of 1 true words) (steps_of count)

abbrev pub order_of_few : List ℕ → List ℕ → List (List ℕ) → Option Order
order_of_few name word [] = order_of_two name word
order_of_few name word (other ∷ []) = order_of_three name word other
order_of_few name word (other ∷ last ∷ []) = order_of_span name word other last
order_of_few name word words = None

abbrev pub order_of_words : List (List ℕ) → Option Order
order_of_words [] = None
order_of_words (name ∷ []) = order_of_one name
order_of_words (name ∷ word ∷ words) =
    if bytes_eq name (codes "until") then until_order word words
    else (if bytes_eq name (codes "continue") then continue_order word words else order_of_few name word words)

-- a look at the machine, or one of these
abbrev pub look_or_words : Option Look → List (List ℕ) → Option Order
look_or_words (Some look) words = Some (Looks look)
look_or_words None words = order_of_words words

abbrev pub order_by : Option Move → List ℕ → Option Order
order_by (Some move) line = order_of_move move
order_by None line = look_or_words (look_of (words_of line)) (words_of line)

-- None: the line is wrong. One of more than 512 bytes always is.
abbrev pub order_of : List ℕ → Option Order
order_of line = if nat_le (length line) 512 then order_by (move_of_line line) line else None

-- ---- the power switch, states that are kept, and a run that is measured

abbrev pub profile_by : Option (List Condition) → Option ℕ → Option StateOrder
profile_by (Some conditions) (Some steps) = Some (Profile steps (record { items = conditions }))
profile_by (Some conditions) None = None
profile_by None steps = None

-- `profile N PLACE..`, of none to sixteen places
abbrev pub profile_order : List ℕ → List (List ℕ) → Option StateOrder
profile_order count words = profile_by (conditions_of 0 false words) (steps_of count)

-- `keep N`, `back N`
abbrev pub state_order_of_few : List ℕ → List ℕ → List (List ℕ) → Option StateOrder
state_order_of_few name word [] =
    if bytes_eq name (codes "keep") then option_map Keep (slot_of word)
    else (if bytes_eq name (codes "back") then option_map Back (slot_of word) else None)
state_order_of_few name word words = None

-- and `power`
abbrev pub state_order_of_words : List (List ℕ) → Option StateOrder
state_order_of_words [] = None
state_order_of_words (name ∷ []) = if bytes_eq name (codes "power") then Some Power else None
state_order_of_words (name ∷ word ∷ words) = if bytes_eq name (codes "profile") then profile_order word words else state_order_of_few name word words

-- one that is no order of this kind may be one of those above
abbrev pub state_order_of : List ℕ → Option StateOrder
state_order_of line = if nat_le (length line) 512 then state_order_of_words (words_of line) else None

-- ---- `restore N`, which asks for N bytes behind its newline

abbrev pub restore_of_words : List (List ℕ) → Option ℕ
restore_of_words (name ∷ word ∷ []) = if bytes_eq name (codes "restore") then size_of word else None
restore_of_words words = None

abbrev pub restore_of : List ℕ → Option ℕ
restore_of line = if nat_le (length line) 512 then restore_of_words (words_of line) else None

-- how many bytes a line asks for
abbrev pub asked_by : Option ℕ → ℕ
asked_by None = 0
asked_by (Some n) = n

abbrev pub asked : List ℕ → ℕ
asked line = asked_by (restore_of line)
