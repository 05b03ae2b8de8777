use Rattle.timer_unit.proofs.Tables.{unused_bits_of_legal}
use Rattle.timer_unit.proofs.serial.Serial.sc.Goals as goal

pub returns : goal.returns
returns c = rw (← c.self.view_is) (unused_bits_of_legal c.self.inside.state.sc c.self.invariant.sc)
