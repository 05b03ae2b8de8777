use Rattle.std.proofs.Common.{sym}
use Rattle.std.proofs.lemmas.List.Sums.{fold-append}
use Rattle.machine.specs.Machine.{MachineState, after, applied}
use Rattle.machine.specs.Machine.{Input}
use Rattle.machine.proofs.laws.inputs_add_up.Goals as goal

pub returns : goal.returns
unfolding after
returns c = λ m first second. sym (fold-append (λ (n : MachineState) (input : Input). applied input n) m first second)
