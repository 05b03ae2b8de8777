use Rattle.timer_unit.proofs.Requested.{timer_request_added}
use Rattle.timer_unit.proofs.laws.timer_request_is_added.Goals as goal

pub returns : goal.returns
returns c = timer_request_added
