use Rattle.memory_map.proofs.LastingFor.{at_once}
use Rattle.memory_map.proofs.lasting.lasts_always.Goals as goal

pub returns-then-lasts : goal.returns-then-lasts
returns-then-lasts c = λ b k le quiet. c.lasts.ensures c.if-lasts.true k b quiet

pub returns : goal.returns
returns c = λ b. at_once c.args.address b
