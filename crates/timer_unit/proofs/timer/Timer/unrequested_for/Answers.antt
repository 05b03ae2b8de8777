use Rattle.std.proofs.Common.{◌≤◌, arith}
use Rattle.timer_unit.proofs.Overflow.{unrequested_below}
use Rattle.timer_unit.proofs.timer.Timer.unrequested_for.Goals as goal

pub returns : goal.returns
returns c =
    let few : c.min.result ≤ c.cycles_below_overflow.result = omega (arith, c.min.ensures) in
    unrequested_below c.min.result c.args.self.now c.cycles_below_overflow.ensures.legal (c.cycles_below_overflow.ensures.below c.min.result few)
