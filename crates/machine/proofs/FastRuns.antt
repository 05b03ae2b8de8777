-- Fast steps that a watch passes, one by one.
use Rattle.std.proofs.Common.{◌≡◌, ◌∙◌, ℕ, zero, suc, ◌+◌, ◌<◌, List, [], ◌∷◌, ◌++◌, length, take, append-nil, append_assoc, below_more, add-one, ap, refl, sym, subst, arith}
use Rattle.std.specs.Prelude.{slice_set}
use Rattle.std.proofs.lemmas.List.{take_more_set}
use Rattle.memory_map.specs.State.{BusState}
use Rattle.memory_map.specs.BusRules.{bus_rules}
use Rattle.sm83_processor.specs.Rules.{Rules}
use Rattle.sm83_processor.specs.Steps.{Step, step_of, after_steps}
use Rattle.sm83_processor.specs.FastStep.{IsFast}
use Rattle.sm83_processor.specs.declared.processor.Processor.{Processor}
use Rattle.sm83_processor.specs.declared.step.Executed.{Executed}
use Rattle.sm83_processor.specs.declared.step.StepKind.{StepKind}
use Rattle.sm83_processor.specs.declared.step.StepKind.TheVariants.{Ran}
use Rattle.sm83_processor.proofs.Runs.{after_steps-zero, after_steps-add_one}
use Rattle.sm83_processor.proofs.FastSteps.{fast_step}
use Rattle.machine.specs.Machine.{cycles_of_steps}
use Rattle.machine.specs.FastRuns.{HasPassed, IsPassing, instruction_in, instructions_in}

pub no_instruction : {M : Type 0} (rules : Rules M) (p : Processor M) → instructions_in rules 0 p ≡ []
unfolding instructions_in
no_instruction rules p = refl

pub instructions_more : {M : Type 0} (rules : Rules M) (n : ℕ) (p : Processor M) →
    instructions_in rules (suc n) p ≡ instructions_in rules n p ++ instruction_in (step_of rules (after_steps rules n p)).stepped.kind
unfolding instructions_in after_steps
instructions_more rules zero p = append-nil _
instructions_more rules (suc n) p =
    ap (λ (xs : List Executed). instruction_in (step_of rules p).stepped.kind ++ xs) (instructions_more rules n (step_of rules p).after)
    ∙ sym (append_assoc (instruction_in (step_of rules p).stepped.kind) _ _)

no_cycle : {M : Type 0} (rules : Rules M) (p : Processor M) → cycles_of_steps rules 0 p ≡ 0
unfolding cycles_of_steps
no_cycle rules p = refl

cycles_more : {M : Type 0} (rules : Rules M) (n : ℕ) (p : Processor M) →
    cycles_of_steps rules (suc n) p ≡ cycles_of_steps rules n p + (step_of rules (after_steps rules n p)).stepped.cycles
unfolding cycles_of_steps after_steps
cycles_more rules zero p = omega arith
cycles_more rules (suc n) p = let rest = cycles_more rules n (step_of rules p).after in omega (arith, rest)

-- no step passed yet
pub none_passed : (passes : Processor BusState → Type 0) (p : Processor BusState) (kept : List Executed) → IsPassing passes 0 0 p p kept
none_passed passes p kept = record {
  passed = record {
    after = after_steps-zero bus_rules p;
    took = sym (no_cycle bus_rules p);
    ran = sym (no_instruction bus_rules p);
    past = λ k some below. absurd (omega (arith, below));
  };
  here = λ some. absurd (omega (arith, some));
}

-- one more step
pub one_passed : (passes : Processor BusState → Type 0) (n before now : ℕ) (p q t : Processor BusState) (kept : List Executed) (seen : Executed) → IsPassing passes n before p q kept
    → n < length kept → (step_of bus_rules q).stepped.kind ≡ Ran seen → t ≡ (step_of bus_rules q).after → now ≡ before + (step_of bus_rules q).stepped.cycles
    → HasPassed passes (n + 1) now p t (take (n + 1) (slice_set kept n seen))
one_passed passes n before now p q t kept seen so_far room is made cycles =
    let known = so_far.passed in record {
      after = made ∙ after_steps-add_one bus_rules n p q known.after;
      took = cycles
          ∙ ap (λ (k : ℕ). k + (step_of bus_rules q).stepped.cycles) known.took
          ∙ ap (λ (s : Processor BusState). cycles_of_steps bus_rules n p + (step_of bus_rules s).stepped.cycles) known.after
          ∙ sym (cycles_more bus_rules n p)
          ∙ ap (λ (k : ℕ). cycles_of_steps bus_rules k p) (sym (add-one n));
      ran = take_more_set kept n seen room
          ∙ ap (λ (xs : List Executed). xs ++ seen ∷ []) known.ran
          ∙ ap (λ (what : StepKind). instructions_in bus_rules n p ++ instruction_in what) (sym (ap (λ (s : Processor BusState). (step_of bus_rules s).stepped.kind) (sym known.after) ∙ is))
          ∙ sym (instructions_more bus_rules n p)
          ∙ ap (λ (k : ℕ). instructions_in bus_rules k p) (sym (add-one n));
      past = λ k some below.
          below_more (λ j. 0 < j → passes (after_steps bus_rules j p)) n
          (λ j less some. known.past j some less)
          (λ some. subst passes known.after (so_far.here some))
          k below some;
    }

-- of steps in two parts
pub passed_in_all : (passes : Processor BusState → Type 0) (n before first second : ℕ) (p q : Processor BusState) (seen : List Executed) →
    HasPassed passes n (before + first + second) p q seen → HasPassed passes n (before + (first + second)) p q seen
passed_in_all passes n before first second p q seen passed = subst (λ (cycles : ℕ). HasPassed passes n cycles p q seen) (omega arith) passed

-- a fast step runs an instruction
pub fast_runs : (p : Processor BusState) → IsFast bus_rules p → ((seen : Executed) → (step_of bus_rules p).stepped.kind ≡ Ran seen → ⊥) → ⊥
fast_runs p fast other = other _ (ap (λ (s : Step BusState). s.stepped.kind) (fast_step bus_rules p fast))
