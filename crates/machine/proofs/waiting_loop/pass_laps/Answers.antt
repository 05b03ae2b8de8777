use Rattle.std.proofs.Common.{◌∙◌, ◌+◌, ap, arith}
use Rattle.sm83_processor.specs.declared.step.Stepped.{Stepped}
use Rattle.memory_map.proofs.QuietCycles.{fewer_are_calm}
use Rattle.machine.proofs.WaitingLoop.{run_goes_on, laps_pass}
use Rattle.machine.proofs.waiting_loop.pass_laps.Goals as goal

pub loop-took-preserved : goal.loop-took-preserved
loop-took-preserved c =
    let calm = c.min-calm.result in
    let p = c.args.processor.now in
    let step = c.step.ensures in
    let known = fewer_are_calm c.calm.result calm p.memory (omega (arith, c.min-calm.ensures, c.from.ensures)) c.calm.ensures in
    record {
      run = run_goes_on calm c.args.passed c.loop-took.took c.from-took.result p c.loop-took.processor c.step.new.self (omega (arith, c.min-calm.ensures, c.requires)) known
          c.loop-took.invariant.run (c.is_still.ensures c.if-not-is_still.false) step.after (c.from-took.ensures ∙ ap (λ (s : Stepped). s.cycles) step.stepped);
      few = omega (arith, c.loop-took-test.true, c.from-took.ensures, step.few_cycles);
    }

pub returns-then-is_back-clause-run : goal.returns-then-is_back-clause-run
returns-then-is_back-clause-run c =
    let calm = c.min-calm.result in
    let p = c.args.processor.now in
    let step = c.step.ensures in
    let took = c.loop-took.took + c.from-took.result in
    let rest = c.whole_laps-laps.ensures in
    let known = fewer_are_calm c.calm.result calm p.memory (omega (arith, c.min-calm.ensures, c.from.ensures)) c.calm.ensures in
    let run = run_goes_on calm c.args.passed c.loop-took.took c.from-took.result p c.loop-took.processor c.step.new.self (omega (arith, c.min-calm.ensures, c.requires)) known
    c.loop-took.invariant.run (c.is_still.ensures c.if-not-is_still.false) step.after (c.from-took.ensures ∙ ap (λ (s : Stepped). s.cycles) step.stepped) in
    laps_pass calm c.args.passed took c.whole_laps-laps.result p c.step.new.self c.pass.new.self run
    (c.is_back.ensures.registers c.if-is_back.true) (c.is_back.ensures.state c.if-is_back.true) rest.whole
    (omega (arith, rest.few, c.loop-took-test.true, c.from-took.ensures, step.few_cycles, c.if-calm-lt-FEWEST_CALM.false)) c.pass.ensures
