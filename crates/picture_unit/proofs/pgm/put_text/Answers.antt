use Rattle.std.proofs.Common.{◌≡◌, ◌+◌, ◌*◌, ℕ, List, length, take, ap, sym, ◌∙◌, ◌++◌, arith, refl}
use Rattle.std.proofs.Math.Seq.{take-add}
use Rattle.std.proofs.lemmas.List.{take_all, length-take-le}
use Rattle.std.proofs.lemmas.Simd.{length-chunk, length-put_chunk, take_more_put_chunk}
use lib.Lanes.{chunk}
use Rattle.picture_unit.specs.Pgm.{values_text, row_text}
use Rattle.picture_unit.proofs.Writing.{length-values_text, values_text-append}
use Rattle.picture_unit.proofs.pgm.put_text.Goals as goal

pub loop-part-init : goal.loop-part-init
unfolding values_text
loop-part-init c = record { size = omega arith; written = refl }

pub loop-part-preserved : goal.loop-part-preserved
loop-part-preserved c =
    let before = c.loop-part.invariant in
    let column = 8 * c.loop-part.part in
    let row = c.args.row.now in
    let eight = chunk column 8 row in
    let long : length eight ≡ 8 = length-chunk column 8 row (omega arith) in
    let size : length (values_text column eight) ≡ 16 = length-values_text column eight ∙ ap (λ (n : ℕ). 2 * n) long in
    let ahead : length (take column row) ≡ column = length-take-le column row (omega arith) in
    let count : 2 * column ≡ 16 * c.loop-part.part = omega arith in
    let next : column + 8 ≡ 8 * (c.loop-part.part + 1) = omega arith in
    record {
      size = ap length c.put_eight.ensures ∙ length-put_chunk (2 * column) c.loop-part.text (values_text column eight) ∙ before.size;
      written =
          ap (take (16 * (c.loop-part.part + 1))) c.put_eight.ensures
          ∙ take_more_put_chunk (2 * column) c.loop-part.text (values_text column eight) (16 * (c.loop-part.part + 1)) (omega arith) (omega arith)
          ∙ ap (λ (l : List ℕ). l ++ values_text column eight) (ap (λ (n : ℕ). take n c.loop-part.text) count ∙ before.written)
          ∙ values_text-append 0 column (take column row) eight (omega (arith, ahead))
          ∙ ap (values_text 0) (sym (take-add column 8 row) ∙ ap (λ (n : ℕ). take n row) next);
    }

pub returns : goal.returns
unfolding row_text
returns c =
    let text : take (16 * c.loop-part.part) c.loop-part.text ≡ c.loop-part.text = take_all (16 * c.loop-part.part) c.loop-part.text (omega arith) in
    let row : take (8 * c.loop-part.part) c.args.row.now ≡ c.args.row.now = take_all (8 * c.loop-part.part) c.args.row.now (omega arith) in
    sym text ∙ c.loop-part.invariant.written ∙ ap (values_text 0) row
