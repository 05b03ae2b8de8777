use Rattle.sector_device.proofs.FailingCalls.{only_that_fails}
use Rattle.sector_device.proofs.laws.only_that_call_fails.Goals as goal

pub returns : goal.returns
returns c = only_that_fails
