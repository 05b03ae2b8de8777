use Rattle.std.proofs.Common.{◌≡◌, true, length, ap, refl, sym, ◌∙◌, arith}
use Rattle.std.specs.Prelude.{false}
use Rattle.std.specs.Vec.{with_items}
use Rattle.std.proofs.lemmas.List.{with_items_is}
use Rattle.picture_unit.specs.LateRows.{with_late, earlier_vram}
use Rattle.picture_unit.proofs.LateLines.{shown_as_is, length-shown}
use Rattle.picture_unit.proofs.rows.Rows.draw_earlier.Goals as goal

pub returns-then-not-self-clause-rows : goal.returns-then-not-self-clause-rows
returns-then-not-self-clause-rows c =
    let r = c.args.self.now in
    let none : r.earlier.has_some ≡ false = cc in
    sym (shown_as_is r.earlier (earlier_vram r c.args.tiles.now) r.earlier_oam.items r.drawn.items (c.requires.earlier.none none))

pub returns-then-not-has_set-clause-rows : goal.returns-then-not-has_set-clause-rows
returns-then-not-has_set-clause-rows c =
    let r = c.args.self.now in
    let none : c.has_set.result ≡ false = cc in
    sym (shown_as_is r.earlier (earlier_vram r c.args.tiles.now) r.earlier_oam.items r.drawn.items (c.has_set.ensures none))

pub returns : goal.returns
returns c =
    let r = c.args.self.now in
    let vram = r.earlier_tiles in
    let oam = r.earlier_oam.items in
    let rows : c.draw.new.rows ≡ with_late r.earlier vram oam r.drawn.items =
    rw (c.deref_mut.ensures.value, c.deref.ensures.value) at c.draw.ensures.rows in
    let count = length-shown r.earlier.are_late r.earlier.drawn_by vram oam r.drawn.items in
    let size : length c.draw.new.rows ≡ r.drawn.len = omega (arith, r.drawn.ok.0, count, ap length rows) in
    let items : (with_items r.drawn c.draw.new.rows).items ≡ c.draw.new.rows = with_items_is r.drawn c.draw.new.rows size in
    record {
      tiles = refl;
      late = refl;
      earlier = c.draw.ensures.lines;
      none = c.draw.ensures.none;
      oam = c.requires.oam;
      row_count = omega (arith, size, r.drawn.ok.0, c.requires.row_count, ap length items);
      rows = rw c.if-self.false (items ∙ rows);
      kept = λ some. absurd (let e : false ≡ true = some in cc);
      kept_oam = λ oam was. was;
    }
