use Rattle.std.proofs.Common.{arith}
use Rattle.std.proofs.lemmas.Grind.{common_steps}
use Rattle.replaying.specs.Script.{seconds_line}
use Rattle.replaying.proofs.lines.seconds_text.Goals as goal

pub returns : goal.returns
unfolding seconds_line
returns c = grind (arith, common_steps)
