-- Numbers as upper-case hexadecimal digits in ASCII, the first digit first.
use Rattle.std.specs.Prelude.{ℕ, ◌+◌, ◌-◌, ◌/◌, ◌%◌, List, [], ◌∷◌, ◌++◌, if◌then◌else◌, nat_lt}

-- the code of a digit: '0' to '9' are 48 to 57, 'A' to 'F' are 65 to 70
abbrev pub hex_digit : ℕ → ℕ
hex_digit value = if nat_lt value 10 then 48 + value else 65 + (value - 10)

-- two digits
abbrev pub byte_text : ℕ → List ℕ
byte_text value = hex_digit (value / 16) ∷ hex_digit (value % 16) ∷ []

-- four digits: those of the high byte, then those of the low byte
abbrev pub word_text : ℕ → List ℕ
word_text value = byte_text (value / 256) ++ byte_text (value % 256)
