use Rattle.std.proofs.Common.{◌≡◌, ◌*◌, ◌%◌, ◌<◌, ap, arith}
use Rattle.std.specs.Prelude.{◌==◌, if◌then◌else◌}
use Rattle.std.proofs.lemmas.Simd.{length-chunk}
use Rattle.std.proofs.lemmas.List.Elements.{All-take, All-drop}
use Rattle.std.proofs.lemmas.Bool.Decides.{nat_tests}
use lib.Lanes.{chunk, put_chunk}
use Rattle.picture_unit.proofs.Writing.{eight-written}
use Rattle.picture_unit.proofs.pgm.put_eight.Goals as goal
use Rattle.picture_unit.proofs.pgm.put_eight.Goals.{then-column-eq24, else-column-eq24}

pub returns : goal.returns
returns c =
    let xs = chunk c.args.column 8 c.args.row.now in
    let last : c.if-column-eq24.last ≡ (if c.args.column % 32 == 24 then 10 else 32) =
    elim c.if-column-eq24.branch [
      | then-column-eq24 w ↦ grind (arith, nat_tests, w.last-is, w.if-column-eq24.true)
      | else-column-eq24 w ↦ grind (arith, nat_tests, w.last-is, w.if-column-eq24.false)
    ] in
    ap (put_chunk (2 * c.args.column) c.args.text.now)
    (eight-written c.args.column c.if-column-eq24.last xs (length-chunk c.args.column 8 c.args.row.now c.requires.within) c.requires.eighth (All-take (λ shade. shade < 4) 8 _ (All-drop (λ shade. shade < 4) c.args.column c.args.row.now c.requires.shades)) last)
