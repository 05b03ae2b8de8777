-- What a write has taken, and what a call that failed has written of its text.
use Rattle.std.specs.Prelude.{ℕ, ◌<◌, ◌≤◌, List, length, take, Option, Result, MatchResult}
use Rattle.std.specs.Io.KnownBytes.{Appends, Keeps}

-- a write took the first bytes, at least one if there are any, and none where it failed
abbrev pub HasTaken : {E : Type 0} → Result ℕ E → (bytes : List ℕ) → (old new : Option (List ℕ)) → Type 0
HasTaken result bytes old new =
    MatchResult result (λ count. (count ≤ length bytes) × (0 < length bytes → 0 < count) × Appends old new (take count bytes)) (λ _. Keeps old new)

-- a writer whose bytes are known got the first `count` bytes of the text, which are not all of it
pub record AppendsProperPrefix (old new : Option (List ℕ)) (text : List ℕ) : Type 0 where
  pub count : ℕ
  pub proper : count < length text
  pub prefix : Appends old new (take count text)
