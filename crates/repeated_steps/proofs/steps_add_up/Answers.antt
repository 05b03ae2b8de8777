use Rattle.repeated_steps.proofs.Iterates.{iterate-add}
use Rattle.repeated_steps.proofs.steps_add_up.Goals as goal

pub returns : goal.returns
returns g c = λ step m n x. iterate-add step m n x
