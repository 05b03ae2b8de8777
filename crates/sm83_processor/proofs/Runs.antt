-- One more step of a run.
use Rattle.std.proofs.Common.{◌≡◌, ℕ, ◌+◌, refl, sym, ap, ◌∙◌}
use Rattle.repeated_steps.proofs.Iterates.{iterate-add_one}
use Rattle.sm83_processor.specs.Rules.{Rules}
use Rattle.sm83_processor.specs.Steps.{step_of, after_steps}
use Rattle.sm83_processor.specs.declared.processor.Processor.{Processor}

pub after_steps-zero : {M : Type 0} (rules : Rules M) (s : Processor M) → s ≡ after_steps rules 0 s
unfolding after_steps
after_steps-zero rules s = refl

pub after_steps-add_one : {M : Type 0} (rules : Rules M) (n : ℕ) (s t : Processor M) →
    t ≡ after_steps rules n s → (step_of rules t).after ≡ after_steps rules (n + 1) s
unfolding after_steps
after_steps-add_one rules n s t e =
    ap (λ (u : Processor _). (step_of rules u).after) e ∙ sym (iterate-add_one (λ u. (step_of rules u).after) n s)
