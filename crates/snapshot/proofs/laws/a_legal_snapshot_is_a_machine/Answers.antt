use Rattle.snapshot.proofs.PowerOn.{legal_snapshot}
use Rattle.snapshot.proofs.laws.a_legal_snapshot_is_a_machine.Goals as goal

pub returns : goal.returns
returns c = legal_snapshot
