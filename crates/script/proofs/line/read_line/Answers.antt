use Rattle.script.proofs.Words.{too_many_words}
use Rattle.script.proofs.line.read_line.Goals as goal

pub returns-in-Some-rest-2-clause-line : goal.returns-in-Some-rest-2-clause-line
returns-in-Some-rest-2-clause-line c =
    too_many_words c.args.line.now _ _ _ _ _ _ c.in-Some.rest c.in-Some-rest.rest _ c.cut.ensures.parts c.in-Some.is c.cut-2.ensures.parts c.in-Some-rest.is c.cut-3.ensures.parts c.in-Some-rest-2.is
