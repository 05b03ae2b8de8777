use Rattle.std.proofs.Common.{◌∙◌, ap, sym}
use Rattle.std.specs.List.{list_any}
use Rattle.opcode_table.specs.declared.instruction.Instr.{Instr}
use Rattle.debugging.specs.Accesses.{is_in}
use Rattle.debugging.specs.Passing.{instruction_writes, only_dma}
use Rattle.debugging.proofs.passing.writes_next.Goals as goal

pub returns-clause-begins : goal.returns-clause-begins
returns-clause-begins c = λ _.
    ap (λ (i : Instr). list_any (is_in only_dma) (instruction_writes i c.args.processor.now.registers)) (sym c.next_instruction-instr.ensures)
    ∙ sym c.begins_copy.ensures ∙ c.if-begins_copy.false

pub returns-clause-writes : goal.returns-clause-writes
returns-clause-writes c = λ none.
    ap (λ (i : Instr). list_any (is_in c.args.span.now) (instruction_writes i c.args.processor.now.registers)) (sym c.next_instruction-instr.ensures)
    ∙ sym c.instruction_writes.ensures ∙ none
