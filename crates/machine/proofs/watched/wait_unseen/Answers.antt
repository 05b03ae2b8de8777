use Rattle.std.proofs.Common.{ap, sym, ◌∙◌, arith}
use Rattle.timer_unit.specs.declared.serial.SerialState.{SerialState}
use Rattle.machine.proofs.Watching.{unseen_waits_on}
use Rattle.machine.proofs.watched.wait_unseen.Goals as goal

pub returns-clause-run : goal.returns-clause-run
returns-clause-run c =
    let waits = c.waits-waits in
    unseen_waits_on c.args.passed waits.result c.args.processor.now c.pass.new.self (omega (arith, waits.ensures.few, c.if-passed-ge-FRAME.false)) c.pass.ensures
    (waits.ensures.waits c.requires.steady) (sym (ap (λ (s : SerialState). s.cycles_left) c.serial.ensures) ∙ c.if-serial-ne0.false)
