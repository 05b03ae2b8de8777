use Rattle.std.proofs.Common.{sym, ◌∙◌}
use Rattle.debugging.proofs.Words.{restore_too_many}
use Rattle.debugging.proofs.order.read_restore_words.Goals as goal

pub returns-then-is_some : goal.returns-then-is_some
returns-then-is_some c =
    restore_too_many c.args.line.now c.cut.result.0.now c.cut-2.result.0.now c.cut.result.1 c.cut-2.result.1 c.in_ok-rest.field-0 c.cut.ensures.parts c.in_ok-rest.was c.cut-2.ensures.parts (sym c.if-is_some.true ∙ c.is_some.ensures)
