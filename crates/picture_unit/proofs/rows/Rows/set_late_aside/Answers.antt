use Rattle.std.proofs.Common.{◌≡◌, ◌∙◌, true, false}
use Rattle.picture_unit.specs.LateRows.{AreRight}
use Rattle.picture_unit.proofs.LateLines.{rows_left}
use Rattle.picture_unit.proofs.rows.Rows.set_late_aside.Goals as goal

pub copy_vram-requires : goal.copy_vram-requires
copy_vram-requires c = record { lines = (c.set_aside_for_objects.ensures.right c.args.oam.now).earlier }

pub returns-clause-right : goal.returns-clause-right
returns-clause-right c = λ vram oam'.
    let before : AreRight c.set_aside_for_objects.new.self c.set_aside_for_objects.new.tiles oam' = c.set_aside_for_objects.ensures.right oam' in
    record {
      late = rw c.copy_vram.ensures.late before.late;
      earlier = rw c.copy_vram.ensures.lines before.earlier;
      oam_size = rw c.copy_vram.ensures.earlier_oam before.oam_size;
      row_count = rw c.copy_vram.ensures.drawn before.row_count;
      kept = λ some _ _ _ _. absurd (let e : false ≡ true = some in cc);
      kept_oam = rw (c.copy_vram.ensures.same_oam, c.copy_vram.ensures.kept_oam) before.kept_oam;
    }

pub returns-clause-rows : goal.returns-clause-rows
returns-clause-rows c = λ vram oam'.
    let e = c.copy_vram.ensures in
    rows_left c.set_aside_for_objects.new.self c.copy_vram.new.self c.set_aside_for_objects.new.tiles c.args.oam.now vram oam' c.set_aside_for_objects.ensures.none e.late e.lines e.earlier_oam e.drawn e.same_vram e.vram
    ∙ c.set_aside_for_objects.ensures.rows c.args.oam.now
