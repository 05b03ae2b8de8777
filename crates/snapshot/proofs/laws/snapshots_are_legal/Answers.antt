use Rattle.snapshot.proofs.Machines.{encoded_legal}
use Rattle.snapshot.proofs.laws.snapshots_are_legal.Goals as goal

pub returns : goal.returns
returns c = encoded_legal
