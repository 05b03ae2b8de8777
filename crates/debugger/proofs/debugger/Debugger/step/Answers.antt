use Rattle.std.proofs.Common.{◌∙◌, [], ◌∷◌, ap, sym}
use Rattle.sm83_processor.specs.declared.step.Stepped.{Stepped}
use Rattle.machine.specs.FastRuns.{instruction_in}
use Rattle.debugger.proofs.Histories.{nothing_kept, other_steps, step_kept}
use Rattle.debugger.proofs.debugger.Debugger.step.Goals as goal

pub returns-in-Ran-clause-debugger : goal.returns-in-Ran-clause-debugger
returns-in-Ran-clause-debugger c =
    let what = sym (ap (λ (s : Stepped). s.kind) c.step-stepped.ensures.stepped) ∙ c.in-Ran.is in
    rw (← c.self.view_is) (step_kept _ _ _ _ (c.in-Ran.seen ∷ []) (ap instruction_in what) c.step-stepped.ensures.machine c.push_back.ensures.items)

pub returns-in_default : goal.returns-in_default
returns-in_default c =
    let what = ap (λ (s : Stepped). s.kind) c.step-stepped.ensures.stepped in
    rw (← c.self.view_is) record {
      debugger = step_kept _ _ _ _ [] (sym (ap instruction_in what) ∙ other_steps _ c.in_default.not-Ran) c.step-stepped.ensures.machine (nothing_kept _ c.self.invariant);
      stepped = c.step-stepped.ensures.stepped;
    }
