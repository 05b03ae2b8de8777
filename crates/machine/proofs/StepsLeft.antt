-- Steps that are left, one by one.
use Rattle.std.proofs.Common.{◌≡◌, ◌∙◌, ℕ, suc, ◌+◌, ap, refl, sym, arith}
use Rattle.sm83_processor.specs.Rules.{Rules}
use Rattle.sm83_processor.specs.Steps.{step_of, after_steps}
use Rattle.sm83_processor.specs.declared.processor.Processor.{Processor}

first_of : {M : Type 0} (r : Rules M) (n : ℕ) (p : Processor M) → after_steps r n (step_of r p).after ≡ after_steps r (suc n) p
unfolding after_steps
first_of r n p = refl

-- a step was made, and one less is left
pub one_fewer : {M : Type 0} (r : Rules M) (left n : ℕ) (p q : Processor M) → n + 1 ≡ left → q ≡ (step_of r p).after →
    after_steps r n q ≡ after_steps r left p
one_fewer r left n p q less made =
    let on : suc n ≡ left = omega (arith, less) in
    ap (after_steps r n) made ∙ first_of r n p ∙ ap (λ (k : ℕ). after_steps r k p) on

-- none is left
pub none_left : {M : Type 0} (r : Rules M) (left : ℕ) (p : Processor M) → left ≡ 0 → p ≡ after_steps r left p
unfolding after_steps
none_left r left p none = ap (λ (k : ℕ). after_steps r k p) (sym none)
