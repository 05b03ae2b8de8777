-- How lines are read.
use Rattle.std.specs.Prelude.{◌≡◌, ◌==◌, ◌⊎◌, ◌<◌, ◌≤◌, ℕ, List, [], ◌∷◌, ◌++◌, length, Option}
use Rattle.std.specs.List.{position_or_len}
use Rattle.std.specs.Io.KnownBytes.{Consumes, IsAtEnd, prepend_known}
use Rattle.input_lines.specs.Newlines.{HasNoNewline}
use Rattle.input_lines.specs.declared.filling.More.{More}
use Rattle.input_lines.specs.declared.filling.More.TheVariants.{Bytes as MoreRead, End as NoMore, Failed as MoreFailed}
use Rattle.input_lines.specs.declared.filling.Filled.{Filled}
use Rattle.input_lines.specs.declared.filling.Filled.TheVariants.{Line as LineThere, End as EndMet, Failed as FillFailed}
use Rattle.input_lines.specs.declared.lines.NextLine.{NextLine}
use Rattle.input_lines.specs.declared.lines.NextLine.TheVariants.{Line, TooLong, End, Failed}

-- what was read and not yet taken, and then what the reader has left, where that is known
abbrev pub left_of : (unread : List ℕ) → Option (List ℕ) → Option (List ℕ)
left_of unread known = prepend_known unread known

-- ---- a read

abbrev pub HasReadMore : More → (old new : List ℕ) → Option (List ℕ) → Type 0
HasReadMore MoreRead old new since = length old < length new
HasReadMore NoMore old new since = (new ≡ old) × IsAtEnd since
HasReadMore MoreFailed old new since = new ≡ old

-- a whole line is there, or more than `most` bytes
abbrev pub IsLineThere : (most : ℕ) → (unread : List ℕ) → Type 0
IsLineThere most unread = (most < length unread) ⊎ (position_or_len (λ byte. byte == 10) unread < length unread)

-- so it is, or there is no newline
abbrev pub IsFilled : Filled → (most : ℕ) → (unread : List ℕ) → Option (List ℕ) → Type 0
IsFilled LineThere most unread since = IsLineThere most unread
IsFilled EndMet most unread since = (position_or_len (λ byte. byte == 10) unread ≡ length unread) × IsAtEnd since
IsFilled FillFailed most unread since = position_or_len (λ byte. byte == 10) unread ≡ length unread

-- ---- a line

-- this line was taken from the bytes that were left: with its newline, which only the last one may lack
abbrev pub TakesLine : List ℕ → (old new : Option (List ℕ)) → Type 0
TakesLine line old new = Consumes old new (line ++ 10 ∷ []) ⊎ ((0 < length line) × Consumes old new line × IsAtEnd new)

-- a line that is taken is given if it has 512 bytes at most
abbrev pub IsCut : NextLine → List ℕ → Type 0
IsCut (Line text) line = (text.items ≡ line) × (length line ≤ 512)
IsCut TooLong line = 512 < length line
IsCut End line = ⊥
IsCut Failed line = ⊥

-- The next line: one of 512 bytes at most, a longer one, none at the end, or the front of one at a read that failed. Such a front is
-- not taken, unless it is longer already.
abbrev pub IsNextLine : NextLine → (old new since : Option (List ℕ)) → Type 0
IsNextLine (Line text) old new since = HasNoNewline text.items × (length text.items ≤ 512) × TakesLine text.items old new
IsNextLine TooLong old new since = (line : List ℕ) × HasNoNewline line × (512 < length line) × TakesLine line old new
IsNextLine End old new since = Consumes old since [] × IsAtEnd since
IsNextLine Failed old new since =
    (rest : List ℕ) × HasNoNewline rest × Consumes old since rest × (Consumes old new [] ⊎ ((512 < length rest) × Consumes old new rest))
