use Rattle.session.proofs.StandsLaws.{new_stands}
use Rattle.session.proofs.laws.a_snapshot_stands_for_its_machine.Goals as goal

pub returns : goal.returns
returns c = new_stands
