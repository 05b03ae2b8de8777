use Rattle.session.proofs.StandsLaws.{more_stands}
use Rattle.session.proofs.laws.more_inputs_stand_further.Goals as goal

pub returns : goal.returns
returns c = more_stands
