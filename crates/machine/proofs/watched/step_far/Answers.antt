use Rattle.std.proofs.Common.{[], true, false, ap, subst, sym, ◌∙◌}
use Rattle.picture_unit.specs.PictureJump.{IsSteady}
use Rattle.memory_map.specs.State.{BusState}
use Rattle.sm83_processor.specs.declared.processor.Processor.{Processor}
use Rattle.sm83_processor.specs.declared.step.Stepped.{Stepped}
use Rattle.machine.specs.Watched.{is_breakpoint}
use Rattle.machine.proofs.Sent.{nothing_is_sent}
use Rattle.machine.proofs.Waiting.{step_is_steady}
use Rattle.machine.proofs.Watching.{seen_by_step}
use Rattle.machine.proofs.watched.step_far.Goals as goal

pub returns-then-is_breakpoint-clause-run : goal.returns-then-is_breakpoint-clause-run
returns-then-is_breakpoint-clause-run c =
    let p = c.args.processor.now in
    let step = c.step-stepped in
    let took = c.from.ensures ∙ ap (λ (s : Stepped). s.cycles) step.ensures.stepped in
    let broke = sym c.if-is_breakpoint.true ∙ c.is_breakpoint.ensures ∙ ap (λ (s : Stepped). is_breakpoint s.kind) step.ensures.stepped in
    seen_by_step c.args.passed c.from.result [] true p step.new.self c.requires.below step.ensures.after took (sym (nothing_is_sent p c.requires.far)) broke

pub wait_unseen-requires-clause-steady : goal.wait_unseen-requires-clause-steady
wait_unseen-requires-clause-steady c =
    subst (λ (p : Processor BusState). IsSteady p.memory.picture) (sym c.step-stepped.ensures.after) (step_is_steady c.args.processor.now)

pub returns-clause-run : goal.returns-clause-run
returns-clause-run c =
    let p = c.args.processor.now in
    let step = c.step-stepped in
    let took = c.from.ensures ∙ ap (λ (s : Stepped). s.cycles) step.ensures.stepped in
    let broke = sym c.if-is_breakpoint.false ∙ c.is_breakpoint.ensures ∙ ap (λ (s : Stepped). is_breakpoint s.kind) step.ensures.stepped in
    seen_by_step c.args.passed c.from.result [] false p step.new.self c.requires.below step.ensures.after took (sym (nothing_is_sent p c.requires.far)) broke
    ∙ sym c.wait_unseen.ensures.run
