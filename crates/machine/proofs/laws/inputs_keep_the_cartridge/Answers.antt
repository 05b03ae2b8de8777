use Rattle.machine.proofs.KeptByInputs.{by_inputs}
use Rattle.machine.proofs.laws.inputs_keep_the_cartridge.Goals as goal

pub returns : goal.returns
returns c = by_inputs
