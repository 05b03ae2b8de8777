use Rattle.std.proofs.Common.{arith}
use Rattle.std.proofs.lemmas.Bool.Decides.{nat_tests}
use Rattle.sm83_processor.proofs.KeptMemory.{keeps_memory, keeps_memory_prefixed}
use Rattle.sm83_processor.proofs.processor.Processor.keeps_memory.Goals as goal

pub returns-in-203 : goal.returns-in-203
returns-in-203 g c = λ two. keeps_memory_prefixed g.M.Memory.rules c.args.opcode c.args.cycles (grind (arith, nat_tests)) (grind (arith, nat_tests))

pub returns-in_default : goal.returns-in_default
returns-in_default g c = λ _. keeps_memory g.M.Memory.rules c.args.opcode c.args.cycles (omega arith) (grind (arith, nat_tests)) (grind (arith, nat_tests))

pub returns-in_default-2 : goal.returns-in_default-2
returns-in_default-2 g c = λ _. keeps_memory g.M.Memory.rules c.args.opcode c.args.cycles (omega arith) (grind (arith, nat_tests)) (grind (arith, nat_tests))

pub returns-in_default-3 : goal.returns-in_default-3
returns-in_default-3 g c = λ _. keeps_memory g.M.Memory.rules c.args.opcode c.args.cycles (omega arith) (grind (arith, nat_tests)) (grind (arith, nat_tests))

pub returns-in_default-4 : goal.returns-in_default-4
returns-in_default-4 g c = λ _. keeps_memory g.M.Memory.rules c.args.opcode c.args.cycles (omega arith) (grind (arith, nat_tests)) (grind (arith, nat_tests))
