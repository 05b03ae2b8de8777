use Rattle.std.proofs.Common.{sym, subst}
use Rattle.timer_unit.specs.declared.serial.SerialState.{SerialState}
use Rattle.machine.specs.Watching.{IsFar}
use Rattle.machine.proofs.Sent.{nothing_is_sent}
use Rattle.machine.proofs.watched.step_seen.Goals as goal

pub returns-then-is_far-clause-sent : goal.returns-then-is_far-clause-sent
returns-then-is_far-clause-sent c =
    sym (nothing_is_sent c.args.processor (subst (λ (s : SerialState). IsFar s.cycles_left) c.serial.ensures (c.is_far.ensures c.if-is_far.true)))
