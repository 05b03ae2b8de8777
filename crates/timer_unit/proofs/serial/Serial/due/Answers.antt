use Rattle.std.proofs.Common.{◌<◌, arith}
use Rattle.timer_unit.specs.Serial.{unrequested}
use Rattle.timer_unit.proofs.SerialJump.{idle, is_due}
use Rattle.timer_unit.proofs.serial.Serial.due.Goals as goal

pub returns-in-0 : goal.returns-in-0
returns-in-0 c = rw (← c.self.view_is) (idle (unrequested c.self.inside.state) c.in-0.is)

pub returns-in_default : goal.returns-in_default
returns-in_default c =
    let running : 0 < c.self.inside.state.cycles_left = omega arith in
    rw (← c.self.view_is, c.from.ensures) (is_due (unrequested c.self.inside.state) running)
