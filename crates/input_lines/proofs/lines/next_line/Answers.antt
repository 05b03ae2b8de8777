use Rattle.std.proofs.Common.{sym, ◌∙◌}
use Rattle.std.proofs.lemmas.Bool.{eqb-false}
use Rattle.input_lines.specs.Reading.{left_of}
use Rattle.input_lines.proofs.Newlines.{found_by_length, nowhere_by_length, some_bytes}
use Rattle.input_lines.proofs.NextLines.{next_there, next_last, next_failed, next_behind}
use Rattle.input_lines.proofs.lines.next_line.Goals as goal

pub skip_line-requires-clause-one : goal.skip_line-requires-clause-one
skip_line-requires-clause-one g c =
    nowhere_by_length c.fill.new.unread.items c.as_slice.result.now c.line_length.result c.len.result c.as_slice.ensures.value c.line_length.ensures c.len.ensures.value c.if-line_length-len.false

pub returns-then-line_length-len-clause-line : goal.returns-then-line_length-len-clause-line
returns-then-line_length-len-clause-line g c =
    let unread = c.fill.new.unread.items in
    next_there c.take_line.result (left_of c.args.unread.now.items (g.R.LineInput.remaining c.args.input.now)) unread c.take_line.new.unread.items (g.R.LineInput.remaining c.fill.new.input)
    c.in-Line.ensures.left c.take_line.ensures.cut c.take_line.ensures.rest
    (found_by_length unread c.as_slice.result.now c.line_length.result c.len.result c.as_slice.ensures.value c.line_length.ensures c.len.ensures.value c.if-line_length-len.true)

pub returns-else-line_length-len-clause-line : goal.returns-else-line_length-len-clause-line
returns-else-line_length-len-clause-line g c =
    next_behind c.skip_line.result (left_of c.args.unread.now.items (g.R.LineInput.remaining c.args.input.now)) (left_of c.fill.new.unread.items (g.R.LineInput.remaining c.fill.new.input))
    (left_of c.skip_line.new.unread.items (g.R.LineInput.remaining c.skip_line.new.input)) (g.R.LineInput.remaining c.skip_line.new.input) c.in-Line.ensures.left c.skip_line.ensures.line

pub returns-else-is_empty-clause-line : goal.returns-else-is_empty-clause-line
returns-else-is_empty-clause-line g c =
    let unread = c.fill.new.unread.items in
    next_last c.take_line-else-is_empty.result (left_of c.args.unread.now.items (g.R.LineInput.remaining c.args.input.now)) unread c.take_line-else-is_empty.new.unread.items (g.R.LineInput.remaining c.fill.new.input)
    c.in-End.ensures.left c.take_line-else-is_empty.ensures.cut c.take_line-else-is_empty.ensures.rest c.in-End.ensures.filled.0
    (some_bytes unread (eqb-false _ _ (sym c.is_empty.ensures ∙ c.if-is_empty.false))) c.in-End.ensures.filled.1

pub returns-in-Failed-clause-line : goal.returns-in-Failed-clause-line
returns-in-Failed-clause-line g c =
    next_failed (left_of c.args.unread.now.items (g.R.LineInput.remaining c.args.input.now)) c.fill.new.unread.items (g.R.LineInput.remaining c.fill.new.input) c.in-Failed.ensures.left c.in-Failed.ensures.filled
