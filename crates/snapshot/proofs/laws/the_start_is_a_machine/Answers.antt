use Rattle.snapshot.proofs.PowerOn.{start_machine}
use Rattle.snapshot.proofs.laws.the_start_is_a_machine.Goals as goal

pub returns : goal.returns
returns c = start_machine
