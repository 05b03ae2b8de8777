-- What the code remembers of the bytes that were sent.
use Rattle.std.specs.Prelude.{ℕ, ◌-◌, ◌==◌, ◌||◌, not, if◌then◌else◌, Bool, false, List, [], ◌∷◌, ◌++◌, codes, length, slice_index}
use Rattle.std.specs.Str.{bytes_eq}
use Rattle.circular_buffer.specs.Buffer.{keep_last}

-- the last six bytes, and whether each of the two words was sent
pub record ToldState : Type 0 where
  pub last : List ℕ
  pub passed : Bool
  pub failed : Bool

abbrev pub nothing_told : ToldState
nothing_told = record { last = []; passed = false; failed = false }

-- one byte more
abbrev pub told_one : ToldState → ℕ → ToldState
told_one t byte =
    let last = keep_last 6 (t.last ++ byte ∷ []) in
    record {
      last = last;
      passed = t.passed || bytes_eq last (codes "Passed");
      failed = t.failed || bytes_eq last (codes "Failed");
    }

-- more bytes
abbrev pub told_all : ToldState → List ℕ → ToldState
told_all t [] = t
told_all t (byte ∷ bytes) = told_all (told_one t byte) bytes

-- a line has begun and not ended
abbrev pub is_in_line : List ℕ → Bool
is_in_line last = not (length last == 0 || slice_index last (length last - 1) == 10)

-- a newline, if so
abbrev pub line_end_told : List ℕ → List ℕ
line_end_told last = if is_in_line last then 10 ∷ [] else []
