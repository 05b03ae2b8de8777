use Rattle.std.proofs.Common.{◌+◌, ap, ◌∙◌, arith}
use Rattle.sm83_processor.specs.declared.step.Stepped.{Stepped}
use Rattle.machine.proofs.Waiting.{stepped_on, waited_on, waits_on}
use Rattle.machine.proofs.frame.step_and_wait.Goals as goal

pub returns-in_default : goal.returns-in_default
returns-in_default c =
    let s = c.step-stepped.ensures in
    record {
      run = stepped_on c.args.passed c.from.result c.args.processor.now c.step-stepped.new.self c.requires s.after (c.from.ensures ∙ ap (λ (s : Stepped). s.cycles) s.stepped);
      more = omega (arith, s.some_cycles, c.from.ensures);
      few = omega (arith, s.few_cycles, c.from.ensures, c.requires);
    }

pub returns-then-now-ge-FRAME-clause-run : goal.returns-then-now-ge-FRAME-clause-run
returns-then-now-ge-FRAME-clause-run c =
    let s = c.step-stepped.ensures in
    stepped_on c.args.passed c.from.result c.args.processor.now c.step-stepped.new.self c.requires s.after (c.from.ensures ∙ ap (λ (s : Stepped). s.cycles) s.stepped)

pub returns-then-sure-gt1-clause-run : goal.returns-then-sure-gt1-clause-run
returns-then-sure-gt1-clause-run c =
    let few = c.sure_waits-sure.ensures.few in
    waits_on c.args.passed c.sure_waits-sure.result c.args.processor.now c.pass.new.self (omega (arith, few, c.requires)) c.pass.ensures c.sure_waits-sure.ensures.waits

pub returns-clause-run : goal.returns-clause-run
returns-clause-run c =
    let s = c.step-stepped.ensures in
    waited_on (c.args.passed + c.from.result) c.waits-waits.result c.args.processor.now c.step-stepped.new.self c.pass-2.new.self
    (omega (arith, c.waits-waits.ensures.few, c.if-now-ge-FRAME.false)) s.after c.pass-2.ensures c.waits-waits.ensures.waits
    ∙ stepped_on c.args.passed c.from.result c.args.processor.now c.step-stepped.new.self c.requires s.after (c.from.ensures ∙ ap (λ (s : Stepped). s.cycles) s.stepped)
