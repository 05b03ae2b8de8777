use Rattle.std.proofs.Common.{arith, sym, ◌∙◌, eqb-true}
use Rattle.picture_unit.proofs.LateLines.{kept_drawn, kept_stays}
use Rattle.picture_unit.proofs.rows.KeptRows.draw.Goals as goal

pub returns-then-is_drawn_by-clause-rows : goal.returns-then-is_drawn_by-clause-rows
returns-then-is_drawn_by-clause-rows c =
    let by = c.args.by.now in
    kept_stays c.args.self.now c.args.rows.now c.args.tiles.now c.args.oam.now c.args.y by c.requires.y_in c.requires.kept c.requires.some (c.is_drawn_by.ensures.marked c.if-is_drawn_by.true) (c.is_drawn_by.ensures.same c.if-is_drawn_by.true by)

pub returns-clause-kept : goal.returns-clause-kept
returns-clause-kept c =
    rw c.draw_with.ensures.row (kept_drawn c.args.self.now c.args.rows.now c.args.tiles.now c.args.oam.now c.args.y c.args.by.now _ (λ placed. sym c.from.ensures ∙ eqb-true c.from.result c.args.y placed) (omega (arith, c.requires.y_in, c.requires.row_count)) (omega arith) (omega arith) c.requires.kept c.requires.some)
