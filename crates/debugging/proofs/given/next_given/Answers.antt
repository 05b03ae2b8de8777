use Rattle.std.proofs.Common.{inl, [], ap, ◌∙◌}
use Rattle.debugging.specs.Orders.{asked}
use Rattle.debugging.proofs.Givens.{long_asks_none, next_asked, takes_plain, asks_some, nonzero}
use Rattle.debugging.proofs.given.next_given.Goals as goal

pub returns-else-size-eq0-clause-given : goal.returns-else-size-eq0-clause-given
returns-else-size-eq0-clause-given g c =
    rw c.given_by.ensures.given
    (next_asked c.in-Line.line.items c.asked-size.result _ _ (asks_some c.in-Line.line.items c.asked-size.result (c.asked-size.ensures ∙ ap asked c.as_slice.ensures.value) (nonzero c.asked-size.result c.if-size-eq0.false))
    c.in-Line.ensures.line.0 c.in-Line.ensures.line.2 c.take_state.result c.args.cartridge.now c.take_state.new.snapshot _ _ c.take_state.ensures.taken)

pub returns-in-TooLong-clause-given : goal.returns-in-TooLong-clause-given
returns-in-TooLong-clause-given g c =
    let none = long_asks_none c.in-TooLong.ensures.line.0 c.in-TooLong.ensures.line.2 in
    (record { line = c.in-TooLong.ensures.line.0; bytes = [] }, inl c.in-TooLong.ensures.line.2, takes_plain c.in-TooLong.ensures.line.0 _ _ none c.in-TooLong.ensures.line.1 c.in-TooLong.ensures.line.3)
