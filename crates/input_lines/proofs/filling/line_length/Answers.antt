use Rattle.std.proofs.Common.{sym, ◌∙◌}
use Rattle.input_lines.proofs.Newlines.{found_at, found_nowhere}
use Rattle.input_lines.proofs.filling.line_length.Goals as goal

pub returns-in-Some : goal.returns-in-Some
returns-in-Some c = found_at c.args.bytes.now _ (sym c.place_of_newline.ensures ∙ c.in-Some.is)

pub returns-in-None : goal.returns-in-None
returns-in-None c = found_nowhere c.args.bytes.now (sym c.place_of_newline.ensures ∙ c.in-None.is)
