use Rattle.std.proofs.Common.{◌∙◌, sym}
use Rattle.machine.proofs.SameRegisters.{same_registers, same_states}
use Rattle.machine.proofs.waiting_loop.is_back.Goals as goal

pub returns-then-eq-clause-registers : goal.returns-then-eq-clause-registers
returns-then-eq-clause-registers c = λ _. same_registers c.args.processor.now.registers c.args.registers.now (sym c.if-eq.ensures)

pub returns-then-eq-clause-state : goal.returns-then-eq-clause-state
returns-then-eq-clause-state c = λ same. same_states c.args.processor.now.state c.args.state.now (sym c.eq-then-eq.ensures ∙ same)
