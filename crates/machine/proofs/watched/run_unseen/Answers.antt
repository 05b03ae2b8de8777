use Rattle.std.proofs.Common.{ap, sym, ◌∙◌, arith}
use Rattle.timer_unit.specs.declared.serial.SerialState.{SerialState}
use Rattle.machine.proofs.Watching.{unseen_waits_on}
use Rattle.machine.proofs.watched.run_unseen.Goals as goal

pub returns-clause-run : goal.returns-clause-run
returns-clause-run c =
    let sure = c.sure_waits-sure in
    sym (unseen_waits_on c.args.passed sure.result c.args.processor.now c.pass.new.self (omega (arith, sure.ensures.few, c.requires)) c.pass.ensures sure.ensures.waits
    (sym (ap (λ (s : SerialState). s.cycles_left) c.serial.ensures) ∙ c.if-serial-ne0.false))
