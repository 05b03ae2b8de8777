-- A machine that was encoded and decoded again.
use Rattle.std.proofs.Common.{◌≡◌, ℕ, List, ◌++◌, Result, Ok, Err, ◌∙◌, ap, length, take}
use Rattle.std.specs.Prelude.{IfOk, IfSome}
use Rattle.std.specs.Result.{result_ok}
use Rattle.std.proofs.Math.Seq.{take-append_seam}

-- ---- an answer without its error

pub some_of_ok : {T E : Type 0} (r : Result T E) {P Q : T → Type 0} → IfOk r P → ((x : T) → P x → Q x) → IfSome (result_ok r) Q
some_of_ok (Ok x) p to = to x p
some_of_ok (Err e) p to = tt

-- ---- a buffer

-- a buffer that a call filled has what the call left in it
pub filled : (out raw : List ℕ) (n : ℕ) → n ≡ length out → take n (out ++ raw) ≡ out
filled out raw n size = ap (λ (k : ℕ). take k (out ++ raw)) size ∙ take-append_seam out raw
