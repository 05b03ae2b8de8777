use Rattle.timer_unit.proofs.TimerJump.{counts_at_its_rate}
use Rattle.timer_unit.proofs.laws.timer_counts_at_its_rate.Goals as goal

pub returns : goal.returns
returns c = counts_at_its_rate
