use Rattle.std.proofs.Common.{◌≡◌, length, ap, refl, ◌∙◌, arith}
use Rattle.std.specs.Vec.{with_items}
use Rattle.std.proofs.lemmas.List.{with_items_is}
use Rattle.picture_unit.specs.LateRows.{with_late}
use Rattle.picture_unit.proofs.LateLines.{length-shown}
use Rattle.picture_unit.proofs.rows.Rows.draw_earlier_by_vram.Goals as goal

pub draw-requires-clause-kept : goal.draw-requires-clause-kept
draw-requires-clause-kept c =
    rw (c.deref_mut.ensures.value, c.deref-3.ensures.value) (rw c.deref.ensures.value at (c.follow.ensures c.args.self.now.drawn.items c.args.tiles.now c.requires.kept))

pub returns : goal.returns
returns c =
    let r = c.args.self.now in
    let vram = c.args.tiles.now in
    let oam = r.earlier_oam.items in
    let rows : c.draw.new.rows ≡ with_late r.earlier vram oam r.drawn.items =
    rw (c.deref_mut.ensures.value, c.deref-3.ensures.value) at c.draw.ensures.rows in
    let count = length-shown r.earlier.are_late r.earlier.drawn_by vram oam r.drawn.items in
    let size : length c.draw.new.rows ≡ r.drawn.len = omega (arith, r.drawn.ok.0, count, ap length rows) in
    let items : (with_items r.drawn c.draw.new.rows).items ≡ c.draw.new.rows = with_items_is r.drawn c.draw.new.rows size in
    record {
      tiles = c.draw.ensures.tiles;
      late = refl;
      earlier = c.draw.ensures.lines;
      none = c.draw.ensures.none;
      oam = c.requires.oam;
      row_count = omega (arith, size, r.drawn.ok.0, c.requires.row_count, ap length items);
      rows = items ∙ rows;
      kept_oam = refl;
      kept = rw (items, c.copy_from_slice.ensures.after, c.deref-2.ensures.value) (rw c.deref-3.ensures.value at c.draw.ensures.kept);
    }
