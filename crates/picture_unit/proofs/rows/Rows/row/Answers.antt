use Rattle.std.proofs.Common.{◌≡◌, [], Some, length, sym, ap, ◌∙◌, arith}
use Rattle.std.proofs.lemmas.Option.{slice_get-get_or, slice_get_read, get_or_from_slice_get}
use Rattle.picture_lines.specs.Pixel.{drawn_row}
use Rattle.picture_lines.specs.declared.registers.LineRegisters.{LineRegisters}
use Rattle.picture_unit.specs.LateRows.{rows_of, with_late, earlier_vram}
use Rattle.picture_unit.proofs.LateLines.{length-shown, shown-late, shown-other}
use Rattle.picture_unit.proofs.rows.Rows.row.Goals as goal

pub returns-then-self-y : goal.returns-then-self-y
returns-then-self-y c =
    let r = c.args.self.now in
    let below = with_late r.earlier (earlier_vram r c.args.tiles.now) r.earlier_oam.items r.drawn.items in
    let vram = c.args.tiles.now in
    let oam = c.args.oam.now in
    let count : length below ≡ length r.drawn.items = length-shown r.earlier.are_late r.earlier.drawn_by (earlier_vram r c.args.tiles.now) r.earlier_oam.items r.drawn.items in
    let all : length (rows_of r vram oam) ≡ length below = length-shown r.late.are_late r.late.drawn_by vram oam below in
    slice_get-get_or (rows_of r vram oam) c.args.y [] (omega (arith, c.requires.right.row_count, c.requires.y_in))
    ∙ ap Some (shown-late r.late.are_late r.late.drawn_by vram oam below c.args.y _ c.if-self-y.true (omega arith) (omega (arith, c.requires.right.row_count)) ∙ sym (rw c.bytes.ensures.bytes at c.draw_by_definition.ensures))

pub returns-then-self-y-2 : goal.returns-then-self-y-2
returns-then-self-y-2 c =
    let r = c.args.self.now in
    let below = with_late r.earlier (earlier_vram r c.args.tiles.now) r.earlier_oam.items r.drawn.items in
    let vram = c.args.tiles.now in
    let oam = c.args.oam.now in
    let count : length below ≡ length r.drawn.items = length-shown r.earlier.are_late r.earlier.drawn_by (earlier_vram r c.args.tiles.now) r.earlier_oam.items r.drawn.items in
    let all : length (rows_of r vram oam) ≡ length below = length-shown r.late.are_late r.late.drawn_by vram oam below in
    slice_get-get_or (rows_of r vram oam) c.args.y [] (omega (arith, c.requires.right.row_count, c.requires.y_in))
    ∙ ap Some (shown-other r.late.are_late r.late.drawn_by vram oam below c.args.y c.if-self-y.false
    ∙ (shown-late r.earlier.are_late r.earlier.drawn_by (earlier_vram r c.args.tiles.now) r.earlier_oam.items r.drawn.items c.args.y c.line-by.result c.if-self-y-2.true (omega (arith, c.line-by.ensures.count, c.requires.y_in)) (omega (arith, c.requires.right.row_count))
    ∙ (ap (λ (l : LineRegisters). drawn_row l (earlier_vram r c.args.tiles.now) r.earlier_oam.items) (c.line-by.ensures.line c.line-by.result) ∙ sym (rw (c.earlier_vram.ensures.bytes, c.deref.ensures.value) at c.draw_by_definition-then-self-y-2.ensures))))

pub returns-else-self-y-2 : goal.returns-else-self-y-2
returns-else-self-y-2 c =
    let r = c.args.self.now in
    let below = with_late r.earlier (earlier_vram r c.args.tiles.now) r.earlier_oam.items r.drawn.items in
    let vram = c.args.tiles.now in
    let oam = c.args.oam.now in
    let count : length below ≡ length r.drawn.items = length-shown r.earlier.are_late r.earlier.drawn_by (earlier_vram r c.args.tiles.now) r.earlier_oam.items r.drawn.items in
    let all : length (rows_of r vram oam) ≡ length below = length-shown r.late.are_late r.late.drawn_by vram oam below in
    slice_get-get_or (rows_of r vram oam) c.args.y [] (omega (arith, c.requires.right.row_count, c.requires.y_in))
    ∙ ap Some (shown-other r.late.are_late r.late.drawn_by vram oam below c.args.y c.if-self-y.false
    ∙ (shown-other r.earlier.are_late r.earlier.drawn_by (earlier_vram r c.args.tiles.now) r.earlier_oam.items r.drawn.items c.args.y c.if-self-y-2.false ∙ get_or_from_slice_get r.drawn.items c.args.y c.index.result.now [] (slice_get_read r.drawn.items 144 c.args.y c.index.result.now (sym c.requires.right.row_count) c.requires.y_in c.index.ensures)))
