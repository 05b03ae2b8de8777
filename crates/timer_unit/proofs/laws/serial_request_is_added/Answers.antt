use Rattle.timer_unit.proofs.Requested.{serial_request_added}
use Rattle.timer_unit.proofs.laws.serial_request_is_added.Goals as goal

pub returns : goal.returns
returns c = serial_request_added
