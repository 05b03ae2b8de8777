use Rattle.std.proofs.Common.{◌≡◌, ◌∙◌, true, false, ap, sym, subst, List}
use Rattle.std.specs.List.{AllPass}
use Rattle.picture_lines.specs.Bits.{has_bit}
use Rattle.picture_lines.specs.Pixel.{pixel, shade_at, drawn_row, covers_line, selected_objects, objects_of}
use Rattle.picture_lines.specs.declared.object_entry.Object.{Object}
use Rattle.picture_lines.proofs.Objects.{selected_objects_when_off, selected_objects_when_on, selected_objects-covered}
use Rattle.picture_lines.proofs.Shades.{drawn_row-small}
use Rattle.picture_lines.proofs.Rows.{drawn_row_from_columns}
use Rattle.picture_lines.proofs.registers.LineRegisters.draw_with.Goals as goal
use Rattle.picture_lines.proofs.registers.LineRegisters.draw_with.Goals.{After-deref}

selected : (c : After-deref) → c.deref.result.now ≡ selected_objects c.args.self.now (objects_of c.args.oam.now)
selected c =
    let on : has_bit c.args.self.now.lcdc 1 ≡ true = cc in
    c.deref.ensures.0 ∙ (c.choose.ensures.objects ∙ selected_objects_when_on c.args.self.now (objects_of c.args.oam.now) on)

pub returns-then-not-has_bit-clause-row : goal.returns-then-not-has_bit-clause-row
unfolding pixel
returns-then-not-has_bit-clause-row c =
    let s = c.args.self.now in
    let vram = c.args.tiles.now in
    let off : has_bit s.lcdc 1 ≡ false = cc in
    drawn_row_from_columns s vram c.args.oam.now c.draw_selected.new.row c.draw_selected.array_long (λ x h.
    c.draw_selected.ensures.shades x h ∙ ap (λ l. shade_at s vram l x) (selected_objects_when_off s (objects_of c.args.oam.now) off))

pub returns-then-not-has_bit-clause-shades : goal.returns-then-not-has_bit-clause-shades
returns-then-not-has_bit-clause-shades c =
    let row : c.draw_selected.new.row ≡ drawn_row c.args.self.now c.args.tiles.now c.args.oam.now = returns-then-not-has_bit-clause-row c in
    rw row (drawn_row-small c.args.self.now c.args.tiles.now c.args.oam.now)

pub draw_selected-requires-2-clause-covered : goal.draw_selected-requires-2-clause-covered
draw_selected-requires-2-clause-covered c =
    let P : List Object → Type 0 = AllPass (covers_line c.args.self.now) in
    subst P (sym (selected ((goal.at.draw_selected-requires-2-clause-covered c).After-deref))) (selected_objects-covered c.args.self.now (objects_of c.args.oam.now))

pub returns-clause-row : goal.returns-clause-row
unfolding pixel
returns-clause-row c =
    let s = c.args.self.now in
    let vram = c.args.tiles.now in
    drawn_row_from_columns s vram c.args.oam.now c.draw_selected-2.new.row c.draw_selected-2.array_long (λ x h.
    c.draw_selected-2.ensures.shades x h ∙ ap (λ l. shade_at s vram l x) (selected ((goal.at.returns-clause-row c).After-deref)))

pub returns-clause-shades : goal.returns-clause-shades
returns-clause-shades c =
    let row : c.draw_selected-2.new.row ≡ drawn_row c.args.self.now c.args.tiles.now c.args.oam.now = returns-clause-row c in
    rw row (drawn_row-small c.args.self.now c.args.tiles.now c.args.oam.now)
