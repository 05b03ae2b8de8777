use Rattle.std.proofs.Common.{◌≡◌, ◌<◌, ℕ, List, Bool, get_or, set, ap, sym, ◌∙◌, true, false, arith}
use Rattle.std.specs.Prelude.{replicate, ◌≢◌}
use Rattle.std.proofs.lemmas.List.{get_or-set_other, get_or-replicate}
use Rattle.picture_unit.specs.declared.rows.LateLines.{LateLines}
use Rattle.picture_unit.specs.LateRows.{with_late, earlier_vram}
use Rattle.picture_unit.proofs.LateLines.{shown_as_is}
use Rattle.picture_unit.proofs.rows.Rows.draw_only.Goals as goal

-- any other flag
other : (flags : List Bool) (y j : ℕ) → set flags y false ≡ replicate 144 false → j ≢ y → j < 144 → get_or flags j false ≡ false
other flags y j alone apart within = sym (get_or-set_other flags y j false false apart) ∙ (ap (λ (l : List Bool). get_or l j false) alone ∙ get_or-replicate 144 j false false within)

pub draw_late-requires-clause-right : goal.draw_late-requires-clause-right
draw_late-requires-clause-right c =
    rw c.draw_earlier.ensures.tiles (record {
      late = rw c.draw_earlier.ensures.late c.requires.right.late;
      earlier = c.draw_earlier.ensures.earlier;
      oam_size = c.draw_earlier.ensures.oam;
      row_count = c.draw_earlier.ensures.row_count;
      kept = c.draw_earlier.ensures.kept;
      kept_oam = c.draw_earlier.ensures.kept_oam c.args.oam.now c.requires.right.kept_oam;
    })

pub draw_late-requires-clause-before : goal.draw_late-requires-clause-before
draw_late-requires-clause-before c = λ j before. rw c.draw_earlier.ensures.late (other c.args.self.now.late.are_late c.args.y j c.requires.alone (λ here. absurd (omega arith)) (omega (arith, c.requires.y_in)))

pub draw_late-requires-clause-behind : goal.draw_late-requires-clause-behind
draw_late-requires-clause-behind c = λ j behind within. rw c.draw_earlier.ensures.late (other c.args.self.now.late.are_late c.args.y j c.requires.alone (λ here. absurd (omega arith)) within)

pub returns-clause-right : goal.returns-clause-right
returns-clause-right c = λ oam'.
    let right = c.draw_late.ensures.right in
    rw c.draw_late.ensures.tiles (record {
      late = right.late;
      earlier = right.earlier;
      oam_size = right.oam_size;
      row_count = right.row_count;
      kept = right.kept;
      kept_oam = λ same. absurd (let e : false ≡ true = same in cc);
    })

pub returns-clause-rows : goal.returns-clause-rows
returns-clause-rows c = λ oam'.
    let r = c.args.self.now in
    let m = c.draw_earlier.new.self in
    let vram = c.args.tiles.now in
    let oam = c.args.oam.now in
    rw (c.draw_late.ensures.tiles, c.draw_earlier.ensures.tiles) (
    (rw c.draw_earlier.ensures.tiles at (c.draw_late.ensures.rows oam'))
    ∙ (ap (with_late m.late vram oam) (shown_as_is m.earlier (earlier_vram m vram) m.earlier_oam.items m.drawn.items c.draw_earlier.ensures.none)
    ∙ (ap (λ (lines : LateLines). with_late lines vram oam m.drawn.items) c.draw_earlier.ensures.late ∙ ap (with_late r.late vram oam) c.draw_earlier.ensures.rows)))
