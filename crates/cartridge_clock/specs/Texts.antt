-- The text of SAVE.time.
use Rattle.std.specs.Prelude.{◌≡◌, ◌⊎◌, ℕ, List, [], ◌++◌, codes, decimal}
use Rattle.std.specs.List.{fold}
use Rattle.cartridge_clock.specs.declared.until.Line.{Line}

-- how many inputs, and until when, in decimal digits
abbrev pub line_bytes : Line → List ℕ
line_bytes line = decimal line.count ++ codes " " ++ decimal line.until ++ codes "\n"

-- one line behind another
abbrev pub text_of : List Line → List ℕ
text_of lines = fold (λ (text : List ℕ) (line : Line). text ++ line_bytes line) [] lines

-- this text is that of these lines, or lacks its last end
abbrev pub IsTextOf : List Line → (text : List ℕ) → Type 0
IsTextOf lines text = (text ≡ text_of lines) ⊎ (text ++ codes "\n" ≡ text_of lines)
