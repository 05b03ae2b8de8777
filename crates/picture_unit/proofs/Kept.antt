-- A byte that is written over itself.
use Rattle.std.proofs.Common.{◌≡◌, ℕ, List, get_or, set, subst}
use Rattle.std.proofs.lemmas.List.{set-get_or}

pub same_written : (bytes : List ℕ) (at value : ℕ) → get_or bytes at 0 ≡ value → set bytes at value ≡ bytes
same_written bytes at value same = subst (λ (v : ℕ). set bytes at v ≡ bytes) same (set-get_or bytes at 0)
