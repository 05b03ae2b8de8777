use Rattle.std.proofs.Common.{refl}
use Rattle.timer_unit.specs.Timer.{unrequested}
use Rattle.timer_unit.proofs.TimerJump.{never_due, is_due}
use Rattle.timer_unit.proofs.timer.Timer.due.Goals as goal

pub returns-then-self-lt4 : goal.returns-then-self-lt4
returns-then-self-lt4 c = rw (← c.self.view_is) (never_due (unrequested c.self.inside.state) c.self.invariant c.if-self-lt4.true)

pub returns-else-self-lt4 : goal.returns-else-self-lt4
returns-else-self-lt4 c =
    rw (← c.self.view_is)
    (is_due (unrequested c.self.inside.state) c.cycles_to_fall.result c.self.invariant c.if-self-lt4.false
    (rw (c.cycles_to_fall.ensures.cycles, ← c.self.view_is) refl))
