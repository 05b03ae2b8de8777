use Rattle.picture_unit.proofs.SignalLaws.{requested_at_rises}
use Rattle.picture_unit.proofs.laws.stat_is_requested_at_rises.Goals as goal

pub returns : goal.returns
returns c = requested_at_rises
