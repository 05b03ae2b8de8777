use Rattle.std.proofs.Common.{arith, ◌∙◌}
use Rattle.std.proofs.lemmas.List.{length-set}
use Rattle.picture_unit.specs.LateRows.{earlier_vram}
use Rattle.picture_unit.proofs.LateLines.{lines-cleared, shown-set, kept_set}
use Rattle.picture_unit.proofs.rows.Rows.set.Goals as goal

pub returns-clause-right : goal.returns-clause-right
returns-clause-right c = λ vram oam right.
    let r = c.args.self.now in
    record {
      late = lines-cleared r.late c.args.y right.late;
      earlier = lines-cleared r.earlier c.args.y right.earlier;
      oam_size = right.oam_size;
      row_count = length-set r.drawn.items c.args.y c.args.row.now ∙ right.row_count;
      kept = kept_set r.kept r.drawn.items vram r.kept_oam c.args.y c.args.row.now right.kept;
      kept_oam = right.kept_oam;
    }

pub returns-clause-rows : goal.returns-clause-rows
returns-clause-rows c = λ vram oam.
    let r = c.args.self.now in
    shown-set vram oam (earlier_vram r vram) r.earlier_oam.items r.late.are_late r.late.drawn_by r.earlier.are_late r.earlier.drawn_by r.drawn.items c.args.y c.args.row.now
    (omega arith) (omega arith) (omega arith) (omega arith)
