-- A fast step within a frame.
use Rattle.std.proofs.Common.{◌≡◌, ℕ, Bool, true, false, refl, ap, ◌∙◌}
use Rattle.std.specs.Prelude.{◌&&◌, not, ◌==◌}

none_dispatched : (ime : Bool) → (ime && false) ≡ false
none_dispatched true = refl
none_dispatched false = refl

-- where IE and IF share no bit, no interrupt is dispatched
pub uninterrupted : (ime : Bool) (shared : ℕ) → shared ≡ 0 → (ime && not (shared == 0)) ≡ false
uninterrupted ime shared none = ap (λ (n : ℕ). ime && not (n == 0)) none ∙ none_dispatched ime
