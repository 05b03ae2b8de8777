use Rattle.std.proofs.Common.{◌∙◌, [], ◌∷◌, ap, subst, sym}
use Rattle.sm83_processor.specs.declared.step.Stepped.{Stepped}
use Rattle.debugger.specs.History.{DebuggerState, HoldsAtMost, after_run}
use Rattle.machine.specs.FastRuns.{instruction_in}
use Rattle.debugger.proofs.Histories.{history_as, nothing_kept, other_steps, parts_are, step_kept}
use Rattle.debugger.proofs.debugger.Debugger.step_watched.Goals as goal
use Rattle.debugger.proofs.debugger.Debugger.step_watched.Goals.{in-Ran, in_default}

pub returns-clause-debugger : goal.returns-clause-debugger
returns-clause-debugger c =
    let parts = c.into_parts-machine.ensures in
    let before = c.into_parts-machine.result in
    let step = c.step_watched-step in
    let what = ap (λ (s : Stepped). s.kind) step.ensures.stepped in
    let same = parts_are c.args.self before.0 before.1 parts.machine parts.items parts.capacity in
    let most : HoldsAtMost before.1.capacity before.1.items = subst (λ (d : DebuggerState). HoldsAtMost d.size d.history) (sym same) (subst (λ (d : DebuggerState). HoldsAtMost d.size d.history) c.self.view_is c.self.invariant) in
    c.from_parts.ensures
    ∙ elim c.match-step.branch [
      | in-Ran w ↦
          ap (history_as step.result.machine) w.history-is
          ∙ step_kept before.0 step.result.machine before.1 w.push_back.new.self (w.in-Ran.seen ∷ []) (ap instruction_in (sym what ∙ w.in-Ran.is)) step.ensures.machine w.push_back.ensures.items
      | in_default w ↦
          ap (history_as step.result.machine) w.history-is
          ∙ step_kept before.0 step.result.machine before.1 before.1 [] (sym (ap instruction_in what) ∙ other_steps _ w.in_default.not-Ran) step.ensures.machine (nothing_kept before.1 most)
    ]
    ∙ ap (after_run 1) same
