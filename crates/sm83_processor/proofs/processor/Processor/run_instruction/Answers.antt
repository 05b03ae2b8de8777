use Rattle.std.proofs.Common.{rules}
use Rattle.opcode_table.specs.Table.{instruction_of}
use Rattle.sm83_processor.proofs.processor.Processor.run_instruction.Goals as goal

-- the other opcodes have a function each, which is proved by itself
pub returns-in-203 : goal.returns-in-203
unfolding instruction_of
returns-in-203 g c = search rules
