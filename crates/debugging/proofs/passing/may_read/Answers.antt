use Rattle.debugging.specs.Accesses.{is_in}
use Rattle.debugging.specs.Passing.{only_dma}
use Rattle.debugging.proofs.PassedSteps.{loads_none, none_of_none, not_reading, stores_none}
use Rattle.debugging.proofs.passing.may_read.Goals as goal

pub returns-then-not-may_access : goal.returns-then-not-may_access
returns-then-not-may_access c = λ _.
    let p = c.args.processor.now in
    not_reading c.args.span.now p c.requires (c.is_copying.ensures c.if-is_copying.false)
    (stores_none (is_in only_dma) p c.read-opcode.result c.read-opcode.ensures (c.may_access.ensures.stores c.if-not-may_access.true))
    (loads_none (is_in c.args.span.now) p c.read-opcode.result c.read-opcode.ensures (c.may_access.ensures.loads c.if-not-may_access.true))

pub returns-then-is_in_registers : goal.returns-then-is_in_registers
returns-then-is_in_registers c = λ _.
    not_reading c.args.span.now c.args.processor.now c.requires (c.is_copying.ensures c.if-is_copying.false)
    (none_of_none (is_in only_dma) (c.is_in_registers.ensures.stores c.if-is_in_registers.true)) (none_of_none (is_in c.args.span.now) (c.is_in_registers.ensures.loads c.if-is_in_registers.true))

pub returns : goal.returns
returns c = λ none.
    not_reading c.args.span.now c.args.processor.now c.requires (c.is_copying.ensures c.if-is_copying.false) (c.reads_next.ensures.begins none) (c.reads_next.ensures.reads none)
