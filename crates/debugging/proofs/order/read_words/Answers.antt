use Rattle.std.proofs.Common.{sym, ◌∙◌}
use Rattle.debugging.proofs.Words.{too_many_words}
use Rattle.debugging.proofs.order.read_words.Goals as goal

pub returns-in-Some-rest-3 : goal.returns-in-Some-rest-3
returns-in-Some-rest-3 c =
    too_many_words c.args.line.now _ _ _ _ _ _ _ _ c.in-Some.rest c.in-Some-rest.rest c.in-Some-rest-2.rest _ c.cut.ensures.parts c.in-Some.is c.cut-2.ensures.parts c.in-Some-rest.is
    c.cut-3.ensures.parts c.in-Some-rest-2.is c.cut-4.ensures.parts c.in-Some-rest-3.is (sym c.is_word.ensures ∙ c.if-is_word.false) (sym c.is_word-2.ensures ∙ c.if-is_word-2.false)
