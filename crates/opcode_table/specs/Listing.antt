-- The line of an instruction in a listing: address, bytes, text.
use Rattle.std.specs.Prelude.{ℕ, List, ◌++◌, ◌==◌, if◌then◌else◌, codes}
use Rattle.exact_text.specs.Hex.{byte_text, word_text}
use Rattle.opcode_table.specs.Text.{text_of}
use Rattle.opcode_table.specs.Timing.{decoded_of}

-- the n bytes of an instruction as digit pairs, padded on the right to six columns
unfoldable pub bytes_column : ℕ → ℕ → ℕ → ℕ → List ℕ
bytes_column n o b c =
    if n == 1 then byte_text o ++ codes "    "
    else if n == 2 then byte_text o ++ byte_text b ++ codes "  "
    else byte_text o ++ byte_text b ++ byte_text c

-- the address in four digits, the bytes of the instruction that begins with o, b and c, and its text
unfoldable pub list_line : ℕ → ℕ → ℕ → ℕ → List ℕ
list_line address o b c = let d = decoded_of o b c in
    word_text address ++ codes " " ++ bytes_column d.length o b c ++ codes " " ++ text_of d.instr ++ codes "\n"
