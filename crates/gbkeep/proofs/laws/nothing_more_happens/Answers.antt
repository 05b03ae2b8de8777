use Rattle.test_run.proofs.Staying.{nothing_more}
use Rattle.gbkeep.proofs.LoopSteps.{loop_step}
use Rattle.gbkeep.proofs.laws.nothing_more_happens.Goals as goal

pub returns : goal.returns
returns c = nothing_more loop_step
