use Rattle.std.proofs.Common.{arith}
use Rattle.std.proofs.lemmas.Bool.Decides.{nat_tests}
use Rattle.sm83_processor.specs.Opcodes.{after_fetch}
use Rattle.sm83_processor.proofs.KeptMemory.{memory_after}
use Rattle.sm83_processor.proofs.UsualStates.{usual_after}
use Rattle.sm83_processor.proofs.processor.Processor.run_opcode.Goals as goal

pub returns-in_default-clause-usual : goal.returns-in_default-clause-usual
returns-in_default-clause-usual g c = λ _ usual.
    usual_after g.M.Memory.rules c.args.opcode (after_fetch c.args.self.now) c.run_instruction-cycles.new.self (omega arith) (grind (arith, nat_tests)) c.run_instruction-cycles.ensures.after usual

pub returns-in_default-clause-memory : goal.returns-in_default-clause-memory
returns-in_default-clause-memory g c = λ kept.
    let run = c.run_instruction-cycles in
    memory_after g.M.Memory.rules c.args.opcode run.result c.args.self.now run.new.self (c.keeps_memory.ensures kept) run.ensures.after run.ensures.cycles
