use Rattle.replaying.proofs.ReadingBack.{script_back}
use Rattle.replaying.proofs.laws.the_script_gives_the_inputs_back.Goals as goal

pub returns : goal.returns
returns c = script_back
