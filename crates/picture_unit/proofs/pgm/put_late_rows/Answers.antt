use Rattle.std.proofs.Common.{[], sym, ap, ◌∙◌, arith, below_more}
use Rattle.std.proofs.lemmas.List.{length-set, get_or-set_same, get_or-set_other}
use Rattle.std.proofs.lemmas.Option.{get_or_from_slice_get}
use Rattle.picture_unit.specs.Pgm.{row_text}
use Rattle.picture_unit.proofs.Writing.{texts-written}
use Rattle.picture_unit.proofs.pgm.put_late_rows.Goals as goal

pub returns : goal.returns
returns c = texts-written row_text c.loop-index.texts c.args.picture.now.rows c.args.first 24 c.loop-index.invariant.size (omega (arith, c.requires.rows, c.requires.within)) (λ i below. c.loop-index.invariant.written i (omega arith))

pub loop-index-preserved : goal.loop-index-preserved
loop-index-preserved c =
    let texts = c.loop-index.texts in
    let at = c.loop-index.index in
    record {
      size = length-set texts at _ ∙ c.loop-index.invariant.size;
      written = below_more _ _ (λ i below. get_or-set_other texts at i _ [] (omega arith) ∙ c.loop-index.invariant.written i below)
          (get_or-set_same texts at _ [] (omega arith) ∙ c.put_text.ensures
          ∙ ap row_text (sym (get_or_from_slice_get c.args.picture.now.rows _ c.row.result [] c.row.ensures.row)));
    }
