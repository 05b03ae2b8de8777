use Rattle.std.proofs.Common.{subst}
use Rattle.opcode_table.specs.declared.instruction.Instr.{Instr}
use Rattle.std.specs.Prelude.{Option, IfSome}
use Rattle.machine.specs.PollingLoop.{IsInstruction}
use Rattle.machine.proofs.polling_loop.load_at.Goals as goal

pub returns-in-LoadHigh : goal.returns-in-LoadHigh
returns-in-LoadHigh c =
    let there = subst (λ (o : Option Instr). IfSome o (λ i. IsInstruction i c.args.memory.now c.args.pc)) c.in-Some.is c.instruction_at.ensures in
    subst (λ (i : Instr). IsInstruction i c.args.memory.now c.args.pc) c.in-LoadHigh.is there

pub returns-in-LoadAt : goal.returns-in-LoadAt
returns-in-LoadAt c =
    let there = subst (λ (o : Option Instr). IfSome o (λ i. IsInstruction i c.args.memory.now c.args.pc)) c.in-Some.is c.instruction_at.ensures in
    subst (λ (i : Instr). IsInstruction i c.args.memory.now c.args.pc) c.in-LoadAt.is there
