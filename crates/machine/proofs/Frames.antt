-- Frames, and the M-cycles of steps.
use Rattle.std.proofs.Common.{◌≡◌, ℕ, zero, suc, ◌+◌, ◌-◌, ◌<◌, ◌≤◌, true, false, nat_lt, refl, ap, sym, ◌∙◌, subst, add-one, arith, inl, inr}
use Rattle.std.proofs.lemmas.Bool.{lt-ltb, le-ltb, cases_lt}
use Rattle.sm83_processor.specs.Rules.{Rules}
use Rattle.sm83_processor.specs.Steps.{step_of, after_steps}
use Rattle.sm83_processor.specs.declared.processor.Processor.{Processor}
use Rattle.sm83_processor.proofs.StepCycles.{step-bounds}
use Rattle.machine.specs.Machine.{Ahead, IsFrame, cycles_of_steps, steps_until}

-- ---- steps until a frame is complete

pub steps_until-step : {M : Type 0} (r : Rules M) (k j n : ℕ) (p : Processor M) → k ≡ j + 1 → n < 17556 →
    steps_until r k n p ≡ steps_until r j (n + (step_of r p).stepped.cycles) (step_of r p).after
unfolding steps_until
steps_until-step r k j n p e below =
    let test : nat_lt n 17556 ≡ true = lt-ltb n 17556 below in
    rw (e, add-one, test) refl

pub steps_until-end : {M : Type 0} (r : Rules M) (k n : ℕ) (p : Processor M) → 17556 ≤ n →
    steps_until r k n p ≡ record { after = p; overrun = n - 17556 }
unfolding steps_until
steps_until-end r zero n p above = refl
steps_until-end r (suc k) n p above =
    let test : nat_lt n 17556 ≡ false = le-ltb n 17556 above in
    rw test refl

-- what a run gives once enough M-cycles have passed
pub steps_until-done : {M : Type 0} (r : Rules M) (k n : ℕ) (p : Processor M) (whole : Ahead M) →
    steps_until r k n p ≡ whole → 17556 ≤ n → (p ≡ whole.after) × (n - 17556 ≡ whole.overrun)
steps_until-done {M} r k n p whole e above =
    let ended : ◌≡◌ {A = Ahead M} (record { after = p; overrun = n - 17556 }) whole = sym (steps_until-end r k n p above) ∙ e in
    (ap (λ (w : Ahead M). w.after) ended, ap (λ (w : Ahead M). w.overrun) ended)

-- ---- a frame is as long as it has to be

at_once : {M : Type 0} (r : Rules M) (k n : ℕ) (p : Processor M) → 17556 ≤ n → n < 17562 → IsFrame r n p (steps_until r k n p)
unfolding cycles_of_steps after_steps
at_once {M} r k n p above few =
    let ended = steps_until-end r k n p above in
    subst (IsFrame r n p) (sym ended) (record {
      steps = 0;
      enough = omega (arith, above);
      least = λ j below. absurd (omega (arith, below));
      reached = refl;
      excess = omega arith;
      few = omega (arith, few);
    })

after_steps-first : {M : Type 0} (r : Rules M) (n : ℕ) (p : Processor M) → after_steps r (suc n) p ≡ after_steps r n (step_of r p).after
unfolding after_steps
after_steps-first r n p = refl

cycles-first : {M : Type 0} (r : Rules M) (n : ℕ) (p : Processor M) → cycles_of_steps r (suc n) p ≡ (step_of r p).stepped.cycles + cycles_of_steps r n (step_of r p).after
unfolding cycles_of_steps
cycles-first r n p = refl

cycles-none : {M : Type 0} (r : Rules M) (p : Processor M) → cycles_of_steps r 0 p ≡ 0
unfolding cycles_of_steps
cycles-none r p = refl

elim_below : {M : Type 0} (r : Rules M) (n : ℕ) (p : Processor M) {new : Ahead M} (rest : IsFrame r (n + (step_of r p).stepped.cycles) (step_of r p).after new) →
    n < 17556 → (j : ℕ) → j < suc rest.steps → n + cycles_of_steps r j p < 17556
elim_below r n p rest below zero some = omega (arith, below, cycles-none r p)
elim_below r n p rest below (suc j) more = omega (arith, rest.least j (omega (arith, more)), cycles-first r j p)

one_step_more : {M : Type 0} (r : Rules M) (n : ℕ) (p : Processor M) (new : Ahead M) → n < 17556 →
    IsFrame r (n + (step_of r p).stepped.cycles) (step_of r p).after new → IsFrame r n p new
one_step_more r n p new below rest =
    let c = (step_of r p).stepped.cycles in
    let next = (step_of r p).after in record {
      steps = suc rest.steps;
      enough = omega (arith, rest.enough, cycles-first r rest.steps p);
      least = elim_below r n p rest below;
      reached = rest.reached ∙ sym (after_steps-first r rest.steps p);
      excess = omega (arith, rest.excess, cycles-first r rest.steps p);
      few = rest.few;
    }

pub until-is_frame : {M : Type 0} (r : Rules M) (k n : ℕ) (p : Processor M) → n < 17562 → 17556 ≤ n + k → IsFrame r n p (steps_until r k n p)
until-is_frame r zero n p few enough = at_once r zero n p (omega (arith, enough)) few
until-is_frame r (suc k) n p few enough =
    let bounds = step-bounds r p in
    elim (cases_lt n 17556) [
      | inl below ↦
          let more : suc k ≡ k + 1 = omega arith in
          subst (IsFrame r n p) (sym (steps_until-step r (suc k) k n p more below))
          (one_step_more r n p _ below (until-is_frame r k (n + (step_of r p).stepped.cycles) (step_of r p).after (omega (arith, below, bounds.few)) (omega (arith, enough, bounds.some))))
      | inr above ↦ at_once r (suc k) n p above few
    ]
