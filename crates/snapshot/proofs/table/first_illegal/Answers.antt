use Rattle.std.proofs.Common.{sym, ◌∙◌}
use Rattle.snapshot.proofs.Search.{first_of, legal_more}
use Rattle.snapshot.proofs.table.first_illegal.Goals as goal

pub returns-then-not-is_legal-clause-some : goal.returns-then-not-is_legal-clause-some
returns-then-not-is_legal-clause-some c =
    first_of c.args.fields.now c.args.encoded.now c.loop-field.field-index _ c.requires c.loop-field-test.true c.loop-field.invariant (sym c.is_legal.ensures ∙ c.if-not-is_legal.true)

pub loop-field-preserved : goal.loop-field-preserved
loop-field-preserved c =
    legal_more c.args.fields.now c.args.encoded.now c.loop-field.field-index _ c.loop-field-test.true c.loop-field.invariant (sym c.is_legal.ensures ∙ c.if-not-is_legal.false)
