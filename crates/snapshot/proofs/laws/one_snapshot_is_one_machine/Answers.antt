use Rattle.snapshot.proofs.Machines.{one_machine}
use Rattle.snapshot.proofs.laws.one_snapshot_is_one_machine.Goals as goal

pub returns : goal.returns
returns c = one_machine
