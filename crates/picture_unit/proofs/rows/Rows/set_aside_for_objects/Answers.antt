use Rattle.std.proofs.Common.{◌≡◌, ◌∙◌, sym, true, false}
use Rattle.picture_unit.specs.LateRows.{with_late, earlier_vram}
use Rattle.picture_unit.proofs.LateLines.{shown_as_is}
use Rattle.picture_unit.proofs.rows.Rows.set_aside_for_objects.Goals as goal

pub returns-clause-right : goal.returns-clause-right
returns-clause-right c = λ oam'.
    let right = c.requires.right in
    record {
      late = right.late;
      earlier = right.earlier;
      oam_size = right.oam_size;
      row_count = right.row_count;
      kept = right.kept;
      kept_oam = λ same. absurd (let e : false ≡ true = same in cc);
    }

pub returns-clause-rows : goal.returns-clause-rows
returns-clause-rows c = λ oam'.
    let r = c.args.self.now in
    let vram = c.args.tiles.now in
    let below = with_late r.earlier (earlier_vram r vram) r.earlier_oam.items r.drawn.items in
    let none = c.requires.right.late.none c.if-self.false in
    shown_as_is r.late vram oam' below none ∙ sym (shown_as_is r.late vram c.args.oam.now below none)
