-- Runs up to a place, made in parts.
use Rattle.std.proofs.Common.{◌≡◌, ℕ, zero, suc, ◌+◌, ◌-◌, ◌≤◌, ◌<◌, Bool, true, false, refl, ap, sym, ◌∙◌, arith}
use Rattle.memory_map.specs.State.{BusState}
use Rattle.memory_map.specs.BusRules.{bus_rules}
use Rattle.sm83_processor.specs.Steps.{step_of, after_steps}
use Rattle.sm83_processor.specs.declared.processor.Processor.{Processor}
use Rattle.debugging.specs.Run.{steps_before, steps_up_to}

module _ (is_there : Processor BusState → Bool) where
  pub before_none : (p : Processor BusState) → steps_before is_there zero p ≡ 0
  unfolding steps_before
  before_none p = refl

  pub before_there : (n : ℕ) (p : Processor BusState) → is_there p ≡ true → steps_before is_there n p ≡ 0
  unfolding steps_before
  before_there zero p there = refl
  before_there (suc n) p there = rw there refl

  before_on : (n : ℕ) (p : Processor BusState) → is_there p ≡ false → steps_before is_there (suc n) p ≡ suc (steps_before is_there n (step_of bus_rules p).after)
  unfolding steps_before
  before_on n p on = rw on refl

  -- steps from elsewhere begin with one
  pub before_elsewhere : (n : ℕ) (p : Processor BusState) → is_there p ≡ false → steps_before is_there n p ≡ steps_up_to is_there n p
  before_elsewhere zero p on = before_none p
  before_elsewhere (suc n) p on = before_on n p on

  -- k steps none of which began there
  skipped : (k n : ℕ) (p : Processor BusState) → k ≤ n → ((j : ℕ) → j < k → is_there (after_steps bus_rules j p) ≡ false)
      → steps_before is_there n p ≡ k + steps_before is_there (n - k) (after_steps bus_rules k p)
  unfolding after_steps
  skipped zero n p few past =
      let left : n - 0 ≡ n = omega arith in
      let none : (x : ℕ) → x ≡ 0 + x = λ x. omega arith in
      ap (λ (m : ℕ). steps_before is_there m p) (sym left) ∙ none _
  skipped (suc k) zero p few past = absurd (omega (arith, few))
  skipped (suc k) (suc n) p few past =
      let q = (step_of bus_rules p).after in
      let left : suc n - suc k ≡ n - k = omega arith in
      let more : (x : ℕ) → suc (k + x) ≡ suc k + x = λ x. omega arith in
      before_on n p (past 0 (omega arith))
      ∙ ap suc (skipped k n q (omega (arith, few)) (λ j less. past (suc j) (omega (arith, less))))
      ∙ more (steps_before is_there (n - k) (after_steps bus_rules k q))
      ∙ ap (λ (m : ℕ). suc k + steps_before is_there m (after_steps bus_rules k q)) (sym left)

  -- k steps of which none but the first began there
  pub made : (k n : ℕ) (p : Processor BusState) → 0 < k → k ≤ n → ((j : ℕ) → 0 < j → j < k → is_there (after_steps bus_rules j p) ≡ false)
      → steps_up_to is_there n p ≡ k + steps_before is_there (n - k) (after_steps bus_rules k p)
  unfolding after_steps
  made zero n p some few past = absurd (omega (arith, some))
  made (suc k) zero p some few past = absurd (omega (arith, few))
  made (suc k) (suc n) p some few past =
      let q = (step_of bus_rules p).after in
      let left : suc n - suc k ≡ n - k = omega arith in
      let more : (x : ℕ) → suc (k + x) ≡ suc k + x = λ x. omega arith in
      ap suc (skipped k n q (omega (arith, few)) (λ j less. past (suc j) (omega arith) (omega (arith, less))))
      ∙ more (steps_before is_there (n - k) (after_steps bus_rules k q))
      ∙ ap (λ (m : ℕ). suc k + steps_before is_there m (after_steps bus_rules k q)) (sym left)
