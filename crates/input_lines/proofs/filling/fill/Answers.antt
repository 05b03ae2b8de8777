use Rattle.std.proofs.Common.{inr, ◌==◌, sym, ap, ◌∙◌}
use Rattle.std.specs.List.{position_or_len}
use Rattle.input_lines.proofs.Newlines.{is_there}
use Rattle.input_lines.proofs.filling.fill.Goals as goal

pub returns-else-line_length-len-clause-filled : goal.returns-else-line_length-len-clause-filled
returns-else-line_length-len-clause-filled g c =
    inr (is_there c.filling.unread.items (λ all. c.if-line_length-len.false (c.line_length.ensures ∙ ap (position_or_len (λ byte. byte == 10)) c.as_slice.ensures.value ∙ all ∙ sym c.len-in-filling.ensures.value)))
