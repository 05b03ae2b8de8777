use Rattle.debugging.specs.Accesses.{is_in}
use Rattle.debugging.specs.Passing.{only_dma}
use Rattle.debugging.proofs.PassedSteps.{none_of_none, not_writing, stores_none}
use Rattle.debugging.proofs.passing.may_write.Goals as goal

pub returns-then-not-may_store : goal.returns-then-not-may_store
returns-then-not-may_store c = λ _.
    let p = c.args.processor.now in
    let nothing = c.may_store.ensures c.if-not-may_store.true in
    not_writing c.args.span.now p c.requires (c.is_copying.ensures c.if-is_copying.false)
    (stores_none (is_in only_dma) p c.read-opcode.result c.read-opcode.ensures nothing) (stores_none (is_in c.args.span.now) p c.read-opcode.result c.read-opcode.ensures nothing)

pub returns-then-is_in_registers : goal.returns-then-is_in_registers
returns-then-is_in_registers c = λ _.
    let nothing = c.is_in_registers.ensures.stores c.if-is_in_registers.true in
    not_writing c.args.span.now c.args.processor.now c.requires (c.is_copying.ensures c.if-is_copying.false) (none_of_none (is_in only_dma) nothing) (none_of_none (is_in c.args.span.now) nothing)

pub returns : goal.returns
returns c = λ none.
    not_writing c.args.span.now c.args.processor.now c.requires (c.is_copying.ensures c.if-is_copying.false) (c.writes_next.ensures.begins none) (c.writes_next.ensures.writes none)
