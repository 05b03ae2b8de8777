use Rattle.std.proofs.Common.{sym, ◌∙◌}
use Rattle.debugging.proofs.Words.{too_many_ends}
use Rattle.debugging.proofs.order.read_span_in.Goals as goal

pub returns-then-is_some : goal.returns-then-is_some
returns-then-is_some c = too_many_ends c.args.word.now _ _ _ _ c.in-Some.rest c.cut.ensures.parts c.in-Some.is c.cut-2.ensures.parts (sym c.if-is_some.true ∙ c.is_some.ensures)
