use Rattle.std.proofs.Common.{subst}
use Rattle.opcode_table.specs.declared.instruction.Instr.{Instr}
use Rattle.std.specs.Prelude.{Option, IfSome}
use Rattle.machine.specs.PollingLoop.{IsInstruction}
use Rattle.machine.proofs.polling_loop.jump_at.Goals as goal

pub returns-in-JumpRelativeIf : goal.returns-in-JumpRelativeIf
returns-in-JumpRelativeIf c =
    let there = subst (λ (o : Option Instr). IfSome o (λ i. IsInstruction i c.args.memory.now c.args.pc)) c.in-Some.is c.instruction_at.ensures in
    subst (λ (i : Instr). IsInstruction i c.args.memory.now c.args.pc) c.in-JumpRelativeIf.is there
