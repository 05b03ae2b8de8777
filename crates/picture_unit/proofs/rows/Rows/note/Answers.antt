use Rattle.std.proofs.Common.{arith}
use Rattle.picture_unit.specs.LateRows.{earlier_vram}
use Rattle.picture_unit.proofs.LateLines.{lines-noted, lines-cleared, shown-noted}
use Rattle.picture_unit.proofs.rows.Rows.note.Goals as goal

pub returns-clause-right : goal.returns-clause-right
returns-clause-right c = λ vram oam right.
    let r = c.args.self.now in
    let y = c.args.registers.now.ly in
    record {
      late = lines-noted r.late y c.args.registers.now c.requires.line_in right.late;
      earlier = lines-cleared r.earlier y right.earlier;
      oam_size = right.oam_size;
      row_count = right.row_count;
      kept = right.kept;
      kept_oam = right.kept_oam;
    }

pub returns-clause-rows : goal.returns-clause-rows
returns-clause-rows c = λ vram oam.
    let r = c.args.self.now in
    shown-noted vram oam (earlier_vram r vram) r.earlier_oam.items r.late.are_late r.late.drawn_by r.earlier.are_late r.earlier.drawn_by r.drawn.items c.args.registers.now.ly c.args.registers.now
    (omega arith) (omega arith) (omega arith) (omega arith)
