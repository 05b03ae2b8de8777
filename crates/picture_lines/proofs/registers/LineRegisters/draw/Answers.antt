use Rattle.std.proofs.Common.{◌≡◌, ◌∙◌, ap, arith}
use Rattle.picture_lines.specs.Pixel.{pixel, shade_at, drawn_row}
use Rattle.picture_lines.proofs.Shades.{drawn_row-small}
use Rattle.picture_lines.proofs.Rows.{drawn_row_from_columns}
use Rattle.picture_lines.proofs.registers.LineRegisters.draw.Goals as goal

pub returns-clause-row : goal.returns-clause-row
unfolding pixel
returns-clause-row c =
    let s = c.args.self.now in
    let vram = c.args.tiles.now in
    drawn_row_from_columns s vram c.args.oam.now c.draw_selected.new.row (omega arith) (λ x h.
    c.draw_selected.ensures.shades x h ∙ ap (λ l. shade_at s vram l x) (c.deref.ensures.0 ∙ c.selected_objects-selected.ensures.value))

pub returns-clause-shades : goal.returns-clause-shades
returns-clause-shades c =
    let row : c.draw_selected.new.row ≡ drawn_row c.args.self.now c.args.tiles.now c.args.oam.now = returns-clause-row c in
    rw row (drawn_row-small c.args.self.now c.args.tiles.now c.args.oam.now)
