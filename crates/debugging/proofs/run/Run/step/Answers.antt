use Rattle.std.proofs.Common.{◌∙◌, ℕ, ap}
use Rattle.sm83_processor.specs.declared.step.Stepped.{Stepped}
use Rattle.debugging.specs.Position.{with_cycles}
use Rattle.debugging.proofs.Runs.{step_noted}
use Rattle.debugging.proofs.run.Run.step.Goals as goal

pub returns-clause-run : goal.returns-clause-run
returns-clause-run c =
    let inside = c.self.inside in
    let step = c.step_watched-debugger in
    step_noted c.args.self inside.debugger step.result.debugger inside.sent.items c.note.new.sent.items _ inside.sent.capacity inside.played c.with_cycles.result c.self.view_is
    c.self.invariant.0 step.ensures.debugger c.note.ensures.items step.ensures.sent
    (c.with_cycles.ensures ∙ ap (λ (n : ℕ). with_cycles n inside.played) (c.from.ensures ∙ ap (λ (s : Stepped). s.cycles) step.ensures.stepped))
