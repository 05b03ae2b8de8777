-- Tests of a few bytes.
use Rattle.std.specs.Prelude.{◌==◌, ◌&&◌, ℕ, List, [], ◌∷◌, slice_index_or, Bool, true, false}
use Rattle.std.specs.List.{list_all}

abbrev pub begins_with : List ℕ → List ℕ → Bool
begins_with [] bytes = true
begins_with (x ∷ xs) [] = false
begins_with (x ∷ xs) (b ∷ bytes) = x == b && begins_with xs bytes

abbrev pub byte : ℕ → List ℕ → ℕ
byte at bytes = slice_index_or bytes at 0

abbrev pub zeros : List ℕ → Bool
zeros bytes = list_all (λ b. b == 0) bytes
