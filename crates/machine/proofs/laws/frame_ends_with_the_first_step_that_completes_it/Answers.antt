use Rattle.std.proofs.Common.{arith}
use Rattle.machine.proofs.Frames.{until-is_frame}
use Rattle.machine.proofs.laws.frame_ends_with_the_first_step_that_completes_it.Goals as goal

pub returns : goal.returns
returns g c = λ rules overrun p few. until-is_frame rules 17556 overrun p (omega (arith, few)) (omega arith)
