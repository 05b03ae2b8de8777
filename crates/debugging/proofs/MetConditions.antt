-- What a run looks for is what its conditions say.
use Rattle.std.proofs.Common.{◌≡◌, ◌∙◌, ℕ, Bool, List, [], ◌∷◌, map, refl, ap}
use Rattle.std.specs.Prelude.{nat_lt}
use Rattle.memory_map.specs.State.{BusState}
use Rattle.sm83_processor.specs.declared.processor.Processor.{Processor}
use Rattle.debugging.specs.declared.order.Condition.{Condition}
use Rattle.debugging.specs.declared.order.Condition.TheVariants.{At, Runs, Reads, Writes, Changes}
use Rattle.debugging.specs.Conditions.{holds, is_met, number_of}
use Rattle.debugging.specs.Quiet.{aim_of, is_aim, is_any}
use Rattle.debugging.specs.declared.aims.Aim.{Aim}
use Rattle.debugging.specs.Answers.{continue_text, met_text, until_steps}
use Rattle.debugging.specs.Run.{RunState, after_steps_of, processor_of, steps_up_to}
use Rattle.debugging.proofs.Stopping.{same_stop}

module _ (began : BusState) where
  aim_holds : (p : Processor BusState) (c : Condition) → is_aim p (aim_of began c) ≡ holds began p c
  aim_holds p (At place) = refl
  aim_holds p (Runs opcode) = refl
  aim_holds p (Reads span) = refl
  aim_holds p (Writes span) = refl
  aim_holds p (Changes address) = refl

  pub any_is_met : (cs : List Condition) (p : Processor BusState) → is_any (map (aim_of began) cs) p ≡ is_met began cs p
  any_is_met [] p = refl
  any_is_met (c ∷ cs) p = rw (aim_holds p c, any_is_met cs p) refl

  pub number_is : (cs : List Condition) (p : Processor BusState) → number_of (is_aim p) (map (aim_of began) cs) ≡ number_of (holds began p) cs
  number_is [] p = refl
  number_is (c ∷ cs) p = rw (aim_holds p c, number_is cs p) refl

-- a run up to these aims is one up to the conditions
pub steps_by : (r : RunState) (cs : List Condition) (aims : List Aim) (n : ℕ) → aims ≡ map (aim_of (processor_of r).memory) cs
    → steps_up_to (is_any aims) n (processor_of r) ≡ until_steps n cs r
steps_by r cs aims n are =
    ap (λ (all : List Aim). steps_up_to (is_any all) n (processor_of r)) are
    ∙ same_stop (is_any (map (aim_of (processor_of r).memory) cs)) (is_met (processor_of r).memory cs) (any_is_met (processor_of r).memory cs) n (processor_of r)

-- what `continue` tells
pub continue_told : (limit : ℕ) (given conditions : List Condition) (r after : RunState) (there : Bool) (number : ℕ) → given ≡ conditions
    → after ≡ after_steps_of (until_steps limit given r) r → there ≡ nat_lt (until_steps limit given r) limit
    → number ≡ number_of (holds (processor_of r).memory (processor_of after)) given
    → met_text there number (processor_of after) ≡ continue_text limit conditions r (after_steps_of (until_steps limit conditions r) r)
continue_told limit given conditions r after there number is run stopped which =
    ap (λ (b : Bool). met_text b number (processor_of after)) stopped
    ∙ ap (λ (n : ℕ). met_text (nat_lt (until_steps limit given r) limit) n (processor_of after)) which
    ∙ ap (continue_text limit given r) run
    ∙ ap (λ (cs : List Condition). continue_text limit cs r (after_steps_of (until_steps limit cs r) r)) is
