-- What the code reads of a line, and what is left of it.
use Rattle.std.specs.Prelude.{ℕ, ◌+◌, List, [], length, Option, None, Some}
use Rattle.std.specs.Borrow.{Bor}
use Rattle.script.specs.Line.{words_of}

-- the words of the text after a space, where there is one
abbrev pub words_after : Option (Bor (List ℕ)) → List (List ℕ)
words_after None = []
words_after (Some text) = words_of text.now

-- the bytes that are left to read, and one for the space before them
abbrev pub bytes_left : Option (Bor (List ℕ)) → ℕ
bytes_left None = 0
bytes_left (Some text) = length text.now + 1
