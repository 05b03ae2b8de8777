use Rattle.std.proofs.Common.{inr, [], sym, ◌∙◌}
use Rattle.std.proofs.lemmas.Bool.{eqb-false}
use Rattle.input_lines.specs.Newlines.{first_line}
use Rattle.input_lines.specs.Reading.{left_of}
use Rattle.input_lines.proofs.Newlines.{no_newline_at_all, some_bytes}
use Rattle.input_lines.proofs.KnownLeft.{left_read}
use Rattle.streaming.proofs.OrderLines.{asked_not_failed, next_all, next_full}
use Rattle.streaming.proofs.next_order.read_next.Goals as goal

pub returns-in-Line-clause-next : goal.returns-in-Line-clause-next
returns-in-Line-clause-next g c =
    next_full c.args.states c.take_line.result (left_of c.args.unread.now.items (g.R.LineInput.remaining c.args.input.now)) c.fill.new.unread.items c.take_line.new.unread.items (g.R.LineInput.remaining c.fill.new.input)
    c.in-Line.ensures.left c.take_line.ensures.asked c.take_line.ensures.rest c.in-Line.ensures.filled

pub returns-else-is_empty-clause-next : goal.returns-else-is_empty-clause-next
returns-else-is_empty-clause-next g c =
    next_all c.args.states c.take_line-else-is_empty.result (left_of c.args.unread.now.items (g.R.LineInput.remaining c.args.input.now)) c.fill.new.unread.items c.take_line-else-is_empty.new.unread.items (g.R.LineInput.remaining c.fill.new.input)
    c.in-End.ensures.left c.take_line-else-is_empty.ensures.asked c.take_line-else-is_empty.ensures.rest c.in-End.ensures.filled.0
    (inr (some_bytes c.fill.new.unread.items (eqb-false _ _ (sym c.is_empty.ensures ∙ c.if-is_empty.false)), c.in-End.ensures.filled.1))

pub returns-in-Failed-clause-next : goal.returns-in-Failed-clause-next
returns-in-Failed-clause-next g c =
    let unread = c.fill.new.unread.items in
    (unread, no_newline_at_all unread c.in-Failed.ensures.filled, left_read (left_of c.args.unread.now.items (g.R.LineInput.remaining c.args.input.now)) unread (g.R.LineInput.remaining c.fill.new.input) [] c.in-Failed.ensures.left)

pub returns-in-Line-clause-failed : goal.returns-in-Line-clause-failed
returns-in-Line-clause-failed g c = λ failed. absurd (asked_not_failed c.args.states c.take_line.result (first_line c.fill.new.unread.items) c.take_line.ensures.asked failed)

pub returns-else-is_empty-clause-failed : goal.returns-else-is_empty-clause-failed
returns-else-is_empty-clause-failed g c = λ failed. absurd (asked_not_failed c.args.states c.take_line-else-is_empty.result (first_line c.fill.new.unread.items) c.take_line-else-is_empty.ensures.asked failed)
