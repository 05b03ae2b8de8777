use Rattle.std.proofs.Common.{sym, ◌∙◌}
use Rattle.debugging.proofs.Words.{state_too_many}
use Rattle.debugging.proofs.order.read_state_words.Goals as goal

pub returns-then-is_word-clause-numbered : goal.returns-then-is_word-clause-numbered
returns-then-is_word-clause-numbered c = tt

pub returns-then-is_some-clause-order : goal.returns-then-is_some-clause-order
returns-then-is_some-clause-order c =
    state_too_many c.args.line.now _ _ _ _ c.in-Some.rest c.cut.ensures.parts c.in-Some.is c.cut-2.ensures.parts (sym c.if-is_some.true ∙ c.is_some.ensures) (sym c.is_word-2.ensures ∙ c.if-is_word-2.false)

pub returns-then-is_word-3-clause-numbered : goal.returns-then-is_word-3-clause-numbered
returns-then-is_word-3-clause-numbered c = c.in_ok-number.ensures.below

pub returns-then-is_word-4-clause-numbered : goal.returns-then-is_word-4-clause-numbered
returns-then-is_word-4-clause-numbered c = c.in_ok-number-2.ensures.below
