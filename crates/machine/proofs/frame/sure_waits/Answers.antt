use Rattle.std.proofs.Common.{arith}
use Rattle.machine.proofs.Waiting.{unshared_waits}
use Rattle.machine.proofs.frame.sure_waits.Goals as goal

pub returns-clause-waits : goal.returns-clause-waits
returns-clause-waits c =
    unshared_waits c.min.result c.none_pending_for.result c.args.processor.now c.if-processor.false c.if-processor-2.false c.if-not-processor.false c.none_pending_for.ensures
    (omega (arith, c.min.ensures, c.from.ensures))
