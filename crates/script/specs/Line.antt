-- One line of a script: its words, with exactly one space between two of them, and the move that they name.
use Rattle.std.specs.Prelude.{ℕ, ◌+◌, ◌*◌, ◌≤◌, ◌==◌, ◌&&◌, Bool, List, [], ◌∷◌, codes, length, nat_le, if◌then◌else◌, Option, None, Some, ⊤}
use Rattle.std.specs.Char.{digit_value, is_digit}
use Rattle.std.specs.List.{list_all, slice_split}
use Rattle.std.specs.Option.{option_map}
use Rattle.std.specs.Str.{bytes_eq}
use Rattle.std.specs.Str.Parse.{digits_value}
use Rattle.script.specs.declared.moves.Move.{Move}
use Rattle.script.specs.declared.moves.Move.TheVariants.{Frames, Seconds, Save, Power}

-- what stands between the spaces; an empty word where two of them meet, and before a first or behind a last one
abbrev pub words_of : List ℕ → List (List ℕ)
words_of line = slice_split (λ byte. byte == 32) line

-- exactly two hexadecimal digits, in either case
abbrev pub byte_of : List ℕ → Option ℕ
byte_of (high ∷ low ∷ []) = if is_digit high 16 && is_digit low 16 then Some (digit_value high * 16 + digit_value low) else None
byte_of word = None

-- one to ten decimal digits
abbrev pub is_count : List ℕ → Bool
is_count word = nat_le 1 (length word) && nat_le (length word) 10 && list_all (λ byte. is_digit byte 10) word

-- the number that they write, if it lies between two limits
abbrev pub count_of : ℕ → ℕ → List ℕ → Option ℕ
count_of least most word =
    if is_count word && nat_le least (digits_value 10 word) && nat_le (digits_value 10 word) most then Some (digits_value 10 word) else None

-- the frames of these buttons, where both words were read
abbrev pub frames_of : Option ℕ → Option ℕ → Option Move
frames_of (Some buttons) (Some times) = Some (Frames buttons times)
frames_of buttons times = None

abbrev pub move_of_one : List ℕ → Option Move
move_of_one name =
    if bytes_eq name (codes "save") then Some Save
    else (if bytes_eq name (codes "power") then Some Power else None)

abbrev pub move_of_two : List ℕ → List ℕ → Option Move
move_of_two name word =
    if bytes_eq name (codes "frame") then frames_of (byte_of word) (Some 1)
    else (if bytes_eq name (codes "seconds") then option_map Seconds (count_of 0 4294967295 word) else None)

abbrev pub move_of_three : List ℕ → List ℕ → List ℕ → Option Move
move_of_three name word count = if bytes_eq name (codes "frames") then frames_of (byte_of word) (count_of 1 1000000 count) else None

-- `save`, `power`, `frame BB`, `seconds N` or `frames BB N`, and nothing else
abbrev pub move_of_words : List (List ℕ) → Option Move
move_of_words (name ∷ []) = move_of_one name
move_of_words (name ∷ word ∷ []) = move_of_two name word
move_of_words (name ∷ word ∷ count ∷ []) = move_of_three name word count
move_of_words words = None

-- None: the line is wrong
abbrev pub move_of_line : List ℕ → Option Move
move_of_line line = move_of_words (words_of line)

-- frames are given 1 to 1,000,000 times
abbrev pub HasTimes : Move → Type 0
HasTimes (Frames buttons times) = (1 ≤ times) × (times ≤ 1000000)
HasTimes (Seconds count) = ⊤
HasTimes Save = ⊤
HasTimes Power = ⊤
