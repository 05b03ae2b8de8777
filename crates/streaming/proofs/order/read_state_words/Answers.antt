use Rattle.std.proofs.Common.{sym, ◌∙◌}
use Rattle.streaming.proofs.OrderLines.{too_many_words}
use Rattle.streaming.proofs.order.read_state_words.Goals as goal

pub returns-then-is_some-clause-order : goal.returns-then-is_some-clause-order
returns-then-is_some-clause-order c =
    too_many_words c.args.line.now c.cut.result.0.now c.cut-2.result.0.now c.cut.result.1 c.cut-2.result.1 c.in_ok-rest.field-0 c.cut.ensures.parts c.in_ok-rest.was c.cut-2.ensures.parts
    (sym c.if-is_some.true ∙ c.is_some.ensures)
