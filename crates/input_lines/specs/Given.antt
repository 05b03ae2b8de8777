-- Lines, of which some ask for bytes that stand behind their newline.
use Rattle.std.specs.Prelude.{◌≡◌, ◌⊎◌, ◌<◌, ◌≤◌, ℕ, List, [], ◌∷◌, ◌++◌, length, Option, All}
use Rattle.std.specs.Io.KnownBytes.{Consumes, IsAtEnd}
use Rattle.input_lines.specs.Newlines.{HasNoNewline}

-- a line without its newline, and the bytes behind it
pub record Given : Type 0 where
  pub line : List ℕ
  pub bytes : List ℕ

-- the line with its newline, and then the bytes
abbrev pub text_of : Given → List ℕ
text_of given = given.line ++ (10 ∷ given.bytes)

abbrev pub texts_of : List Given → List ℕ
texts_of [] = []
texts_of (given ∷ rest) = text_of given ++ texts_of rest

-- ---- by how many bytes a line asks for

-- all of them are there
abbrev pub IsWhole : (asked : List ℕ → ℕ) → Given → Type 0
IsWhole asked given = HasNoNewline given.line × (length given.bytes ≡ asked given.line)

-- some of them may be missing
abbrev pub IsPart : (asked : List ℕ → ℕ) → Given → Type 0
IsPart asked given = HasNoNewline given.line × (length given.bytes ≤ asked given.line)

-- This text ends in the last of these: within its bytes, or before its newline.
pub record IsCutOff (asked : List ℕ → ℕ) (all : List Given) (text : List ℕ) : Type 0 where
  pub first : List Given
  pub last : Given
  pub is : all ≡ first ++ last ∷ []
  pub whole : All (IsWhole asked) first
  pub part : IsPart asked last
  pub ends : (text ≡ texts_of first ++ text_of last) ⊎ ((last.bytes ≡ []) × (text ≡ texts_of first ++ last.line))

-- These were read, and then some bytes more. Where the input ends within the last one, no more are.
abbrev pub HasReadGiven : (asked : List ℕ → ℕ) → List Given → (more : List ℕ) → (before since : Option (List ℕ)) → Type 0
HasReadGiven asked all more before since =
    (All (IsWhole asked) all × Consumes before since (texts_of all ++ more))
    ⊎ ((text : List ℕ) × IsCutOff asked all text × (more ≡ []) × Consumes before since text × IsAtEnd since)

-- what was read of a line that is not whole: the front of a line, or a line and fewer bytes than it asks for
abbrev pub IsUnfinished : (asked : List ℕ → ℕ) → List ℕ → Type 0
IsUnfinished asked text =
    HasNoNewline text ⊎ ((given : Given) × HasNoNewline given.line × (length given.bytes < asked given.line) × (text ≡ text_of given))

-- ---- as they are taken

-- it was taken with its newline, which only a last line without bytes may lack
abbrev pub TakesGiven : (asked : List ℕ → ℕ) → Given → (old new : Option (List ℕ)) → Type 0
TakesGiven asked given old new =
    IsWhole asked given
    × (Consumes old new (text_of given) ⊎ ((given.bytes ≡ []) × (0 < length given.line) × Consumes old new given.line × IsAtEnd new))

-- the input ended within it
abbrev pub EndsWithin : (asked : List ℕ → ℕ) → Given → (old new : Option (List ℕ)) → Type 0
EndsWithin asked given old new =
    IsPart asked given
    × (Consumes old new (text_of given) ⊎ ((given.bytes ≡ []) × (0 < length given.line) × Consumes old new given.line)) × IsAtEnd new

-- these were taken, one after another
abbrev pub HasTakenGiven : (asked : List ℕ → ℕ) → List Given → (old new : Option (List ℕ)) → Type 0
HasTakenGiven asked all old new =
    All (IsWhole asked) all
    × (Consumes old new (texts_of all) ⊎ ((text : List ℕ) × IsCutOff asked all text × Consumes old new text × IsAtEnd new))
