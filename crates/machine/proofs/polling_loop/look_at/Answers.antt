use Rattle.std.proofs.Common.{Option, subst}
use Rattle.std.specs.Prelude.{IfSome}
use Rattle.opcode_table.specs.declared.instruction.Instr.{Instr}
use Rattle.machine.specs.PollingLoop.{IsInstruction}
use Rattle.machine.proofs.PollingLoop.{look_there}
use Rattle.machine.proofs.polling_loop.look_at.Goals as goal

pub returns : goal.returns
returns c =
    let there = subst (λ (o : Option Instr). IfSome o (λ i. IsInstruction i c.args.memory.now c.args.pc)) c.in-Some.is c.instruction_at.ensures in
    look_there c.look_by.result c.in-Some.instr c.args.memory.now c.args.pc c.look_by.ensures there
