use Rattle.std.proofs.Common.{◌∙◌, sym}
use Rattle.machine.proofs.SameRegisters.{same_registers}
use Rattle.machine.proofs.polling_loop.are_same.Goals as goal

pub returns : goal.returns
returns c = λ same. same_registers c.args.a.now c.args.b.now (sym c.eq.ensures ∙ same)
