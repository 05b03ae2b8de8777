use Rattle.std.proofs.Common.{◌≡◌, List, ℕ, length, ap, refl, sym, subst, ◌∙◌, arith}
use Rattle.std.specs.Vec.{with_items}
use Rattle.std.proofs.lemmas.List.{with_items_is}
use Rattle.picture_unit.specs.declared.rows.LateLines.{LateLines}
use Rattle.picture_unit.specs.LateRows.{with_late, earlier_vram, AreKept}
use Rattle.picture_unit.proofs.LateLines.{shown_blank, shown_as_is, length-shown}
use Rattle.picture_unit.proofs.rows.Rows.draw_late.Goals as goal

pub draw-requires-clause-lines : goal.draw-requires-clause-lines
draw-requires-clause-lines c = rw c.keep_by.ensures.late c.requires.right.late

pub draw-requires-clause-before : goal.draw-requires-clause-before
draw-requires-clause-before c = rw c.keep_by.ensures.late c.requires.before

pub draw-requires-clause-behind : goal.draw-requires-clause-behind
draw-requires-clause-behind c = rw c.keep_by.ensures.late c.requires.behind

pub draw-requires-clause-row_count : goal.draw-requires-clause-row_count
draw-requires-clause-row_count c = rw (c.deref_mut.ensures.value, c.keep_by.ensures.drawn) c.requires.right.row_count

pub draw-requires-clause-kept : goal.draw-requires-clause-kept
draw-requires-clause-kept c = rw (c.deref_mut.ensures.value, c.keep_by.ensures.drawn) (c.keep_by.ensures.kept c.args.self.now.drawn.items c.args.tiles.now c.requires.right.kept)

pub returns-clause-right : goal.returns-clause-right
returns-clause-right c =
    let m = c.keep_by.new.self in
    let vram = c.args.tiles.now in
    let oam = c.args.oam.now in
    let count : length m.drawn.items ≡ 144 = rw c.keep_by.ensures.drawn c.requires.right.row_count in
    let all : c.draw.new.rows ≡ with_late m.late vram oam m.drawn.items = c.draw.ensures.rows ∙ ap (with_late m.late vram oam) c.deref_mut.ensures.value in
    let size : length c.draw.new.rows ≡ m.drawn.len = omega (arith, m.drawn.ok.0, length-shown m.late.are_late m.late.drawn_by vram oam m.drawn.items, ap length all) in
    let items : (with_items m.drawn c.draw.new.rows).items ≡ c.draw.new.rows = with_items_is m.drawn c.draw.new.rows size in
    record {
      late = c.draw.ensures.lines;
      earlier = rw c.keep_by.ensures.earlier c.requires.right.earlier;
      oam_size = rw c.keep_by.ensures.earlier_oam c.requires.right.oam_size;
      row_count = omega (arith, size, m.drawn.ok.0, count, ap length items);
      kept = rw c.keep_by.ensures.oam (subst (λ (rows : List (List ℕ)). AreKept c.draw.new.kept rows vram oam) (sym items) c.draw.ensures.kept);
      kept_oam = λ _. c.keep_by.ensures.oam;
    }

pub returns-clause-rows : goal.returns-clause-rows
returns-clause-rows c = λ oam'.
    let r = c.args.self.now in
    let m = c.keep_by.new.self in
    let vram = c.args.tiles.now in
    let oam = c.args.oam.now in
    let all : c.draw.new.rows ≡ with_late m.late vram oam m.drawn.items = c.draw.ensures.rows ∙ ap (with_late m.late vram oam) c.deref_mut.ensures.value in
    let size : length c.draw.new.rows ≡ m.drawn.len = omega (arith, m.drawn.ok.0, length-shown m.late.are_late m.late.drawn_by vram oam m.drawn.items, ap length all) in
    let items : (with_items m.drawn c.draw.new.rows).items ≡ c.draw.new.rows = with_items_is m.drawn c.draw.new.rows size in
    let drawn : m.drawn.items ≡ r.drawn.items = rw c.keep_by.ensures.drawn refl in
    let none : m.earlier.are_late ≡ r.earlier.are_late = rw c.keep_by.ensures.earlier refl in
    shown_blank c.draw.new.self m.earlier vram oam' (earlier_vram m vram) m.earlier_oam.items (with_items m.drawn c.draw.new.rows).items c.draw.ensures.none (none ∙ c.requires.none)
    ∙ (items ∙ all ∙ ap (λ (lines : LateLines). with_late lines vram oam m.drawn.items) c.keep_by.ensures.late ∙ ap (with_late r.late vram oam) (drawn ∙ sym (shown_as_is r.earlier (earlier_vram r vram) r.earlier_oam.items r.drawn.items c.requires.none)))
