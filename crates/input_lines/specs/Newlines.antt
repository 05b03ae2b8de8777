-- Bytes as lines: a newline ends a line, and belongs to none.
use Rattle.std.specs.Prelude.{◌≢◌, ◌==◌, ◌+◌, ℕ, List, [], ◌∷◌, ◌++◌, take, drop, All}
use Rattle.std.specs.List.{position_or_len}

-- no byte is a newline
abbrev pub HasNoNewline : List ℕ → Type 0
HasNoNewline line = All (λ byte. byte ≢ 10) line

-- the bytes before the first newline, and those behind it
abbrev pub first_line : List ℕ → List ℕ
first_line bytes = take (position_or_len (λ byte. byte == 10) bytes) bytes

abbrev pub behind_first_line : List ℕ → List ℕ
behind_first_line bytes = drop (position_or_len (λ byte. byte == 10) bytes + 1) bytes
