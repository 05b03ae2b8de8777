use Rattle.repeated_steps.proofs.Iterates.{iterate-both}
use Rattle.repeated_steps.proofs.steps_commute.Goals as goal

pub returns : goal.returns
returns g c = λ first second e n x. iterate-both (λ y. Unit {0}) first second (λ y p. tt) (λ y p. tt) (λ y p. e y) n x tt
