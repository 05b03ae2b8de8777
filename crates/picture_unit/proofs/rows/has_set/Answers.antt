use Rattle.std.proofs.Common.{◌≡◌, ℕ, Bool, true, false, get_or, refl, sym, subst, arith, inl, inr}
use Rattle.std.specs.Prelude.{◌||◌}
use Rattle.std.proofs.lemmas.Bool.{cases_eq}
use Rattle.picture_unit.proofs.LateLines.{all_false}
use Rattle.picture_unit.proofs.rows.has_set.Goals as goal

left-unset : (a b : Bool) → (a || b) ≡ false → a ≡ false
left-unset true b none = none
left-unset false b none = refl

right-unset : (a b : Bool) → (a || b) ≡ false → b ≡ false
right-unset true b none = absurd (let e : true ≡ false = none in cc)
right-unset false b none = none

pub loop-y-preserved : goal.loop-y-preserved
loop-y-preserved c = λ none j below. elim (cases_eq j c.loop-y.y) [
  | inl here ↦ subst (λ (n : ℕ). get_or c.args.flags.now n false ≡ false) (sym here) (right-unset _ _ none)
  | inr other ↦ c.loop-y.invariant (left-unset _ _ none) j (omega arith)
]

pub returns : goal.returns
returns c = λ none. all_false c.args.flags.now 144 (omega arith) (λ y below. c.loop-y.invariant none y (omega arith))
