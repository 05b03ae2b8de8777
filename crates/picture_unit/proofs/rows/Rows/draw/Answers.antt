use Rattle.std.proofs.Common.{ap, ◌∙◌}
use Rattle.picture_unit.specs.declared.rows.LateLines.{LateLines}
use Rattle.picture_unit.specs.LateRows.{with_late, earlier_vram}
use Rattle.picture_unit.proofs.LateLines.{shown_as_is}
use Rattle.picture_unit.proofs.rows.Rows.draw.Goals as goal

pub returns-then-not-self-clause-right : goal.returns-then-not-self-clause-right
returns-then-not-self-clause-right c =
    rw c.draw_earlier.ensures.tiles (record {
      late = rw c.draw_earlier.ensures.late c.requires.right.late;
      earlier = c.draw_earlier.ensures.earlier;
      oam_size = c.draw_earlier.ensures.oam;
      row_count = c.draw_earlier.ensures.row_count;
      kept = c.draw_earlier.ensures.kept;
      kept_oam = c.draw_earlier.ensures.kept_oam c.args.oam.now c.requires.right.kept_oam;
    })

pub returns-then-not-self-clause-rows : goal.returns-then-not-self-clause-rows
returns-then-not-self-clause-rows c =
    let r = c.args.self.now in
    let m = c.draw_earlier.new.self in
    let vram = c.args.tiles.now in
    let oam = c.args.oam.now in
    ap (with_late m.late vram oam) (shown_as_is m.earlier (earlier_vram m vram) m.earlier_oam.items m.drawn.items c.draw_earlier.ensures.none)
    ∙ (ap (λ (lines : LateLines). with_late lines vram oam m.drawn.items) c.draw_earlier.ensures.late ∙ ap (with_late r.late vram oam) c.draw_earlier.ensures.rows)

pub draw_late-requires-clause-right : goal.draw_late-requires-clause-right
draw_late-requires-clause-right c =
    rw c.draw_earlier.ensures.tiles (record {
      late = rw c.draw_earlier.ensures.late c.requires.right.late;
      earlier = c.draw_earlier.ensures.earlier;
      oam_size = c.draw_earlier.ensures.oam;
      row_count = c.draw_earlier.ensures.row_count;
      kept = c.draw_earlier.ensures.kept;
      kept_oam = c.draw_earlier.ensures.kept_oam c.args.oam.now c.requires.right.kept_oam;
    })

pub returns-clause-right : goal.returns-clause-right
returns-clause-right c = rw c.draw_late.ensures.tiles c.draw_late.ensures.right

pub returns-clause-rows : goal.returns-clause-rows
returns-clause-rows c =
    let r = c.args.self.now in
    let m = c.draw_earlier.new.self in
    let vram = c.args.tiles.now in
    let oam = c.args.oam.now in
    (rw c.draw_earlier.ensures.tiles at (c.draw_late.ensures.rows oam))
    ∙ (ap (with_late m.late vram oam) (shown_as_is m.earlier (earlier_vram m vram) m.earlier_oam.items m.drawn.items c.draw_earlier.ensures.none)
    ∙ (ap (λ (lines : LateLines). with_late lines vram oam m.drawn.items) c.draw_earlier.ensures.late ∙ ap (with_late r.late vram oam) c.draw_earlier.ensures.rows))
