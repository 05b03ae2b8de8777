use Rattle.std.proofs.Common.{arith}
use Rattle.picture_unit.specs.Pgm.{row_text}
use Rattle.picture_unit.proofs.Writing.{texts-written}
use Rattle.picture_unit.proofs.pgm.put_drawn_rows.Goals as goal

pub returns : goal.returns
returns c = texts-written row_text c.loop-index.texts c.args.rows.now c.args.first 24 c.loop-index.invariant.size c.requires.within (λ i below. c.loop-index.invariant.written i (omega arith))
