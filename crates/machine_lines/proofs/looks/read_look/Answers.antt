use Rattle.std.proofs.Common.{sym, ◌∙◌}
use Rattle.machine_lines.proofs.LookLines.{too_many_words}
use Rattle.machine_lines.proofs.looks.read_look.Goals as goal

pub returns-then-is_some : goal.returns-then-is_some
returns-then-is_some c =
    too_many_words c.args.line.now c.cut.result.0.now c.cut-2.result.0.now c.cut-3.result.0.now c.cut.result.1 c.cut-2.result.1 c.cut-3.result.1 c.in-Some.rest c.in_ok-rest.field-0
    c.cut.ensures.parts c.in-Some.is c.cut-2.ensures.parts c.in_ok-rest.was c.cut-3.ensures.parts (sym c.if-is_some.true ∙ c.is_some.ensures)
