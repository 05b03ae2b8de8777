-- The words of lines about a machine.
use Rattle.std.specs.Prelude.{ℕ, ◌&&◌, Bool, List, length, nat_le, if◌then◌else◌, Option, None, Some}
use Rattle.std.specs.Char.{is_digit}
use Rattle.std.specs.List.{list_all}
use Rattle.std.specs.Str.Parse.{digits_value}
use Rattle.script.specs.Line.{count_of}

-- one hexadecimal digit to so many, in either case
abbrev pub is_hex : (most : ℕ) → List ℕ → Bool
is_hex most word = nat_le 1 (length word) && nat_le (length word) most && list_all (λ byte. is_digit byte 16) word

abbrev pub hex_of : (most : ℕ) → List ℕ → Option ℕ
hex_of most word = if is_hex most word then Some (digits_value 16 word) else None

abbrev pub address_of : List ℕ → Option ℕ
address_of word = hex_of 4 word

-- a count of lines, or of bytes
abbrev pub room_of : List ℕ → Option ℕ
room_of word = count_of 1 65536 word

-- the number under which a state is kept
abbrev pub slot_of : List ℕ → Option ℕ
slot_of word = count_of 0 999 word

-- how many bytes stand behind a line
abbrev pub size_of : List ℕ → Option ℕ
size_of word = count_of 1 1048576 word
