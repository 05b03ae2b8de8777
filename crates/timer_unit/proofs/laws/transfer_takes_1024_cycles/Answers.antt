use Rattle.timer_unit.proofs.SerialLaws.{transfer_takes_1024_cycles}
use Rattle.timer_unit.proofs.laws.transfer_takes_1024_cycles.Goals as goal

pub returns : goal.returns
returns c = transfer_takes_1024_cycles
