use Rattle.std.proofs.Common.{◌≡◌, ◌+◌, List, ℕ, ap, sym, subst, ◌∙◌, ◌<◌, Some, arith}
use Rattle.std.specs.Prelude.{All, slice_get}
use Rattle.picture_lines.proofs.Shades.{drawn_row-small}
use Rattle.picture_unit.specs.declared.state.PictureState.{PictureState}
use Rattle.picture_unit.specs.Picture.{unrequested, ticks}
use Rattle.picture_unit.specs.LatePicture.{state_after, line_drawn_next}
use Rattle.picture_unit.specs.Stores.{region_of, region_length}
use Rattle.picture_unit.proofs.LatePictures.{next_state, row_stays, row_of_other, row_is_drawn}
use Rattle.picture_unit.proofs.picture.Picture.row_after.Goals as goal
use Rattle.picture_unit.proofs.picture.Picture.row_after.Goals.{in-Some+then-from-y, in-Some+else-from-y, in_default}

pub loop-cycle-init : goal.loop-cycle-init
unfolding unrequested
loop-cycle-init c = record { legal = c.state-state.ensures.legal; now = c.state-state.ensures.state; row = c.row-row.ensures.row; shades = c.row-row.ensures.shades }

pub draw_by_definition-requires-clause-vram : goal.draw_by_definition-requires-clause-vram
unfolding region_length
draw_by_definition-requires-clause-vram c = c.region-vram.ensures.whole

pub draw_by_definition-requires-clause-oam : goal.draw_by_definition-requires-clause-oam
unfolding region_length
draw_by_definition-requires-clause-oam c = c.region-oam.ensures.whole

pub loop-cycle-preserved : goal.loop-cycle-preserved
unfolding region_of
loop-cycle-preserved c =
    let s = c.args.self.now in
    let k = c.loop-cycle._cycle in
    let state = c.tick.ensures.state ∙ ap (λ (p : PictureState). state_after 1 p) c.loop-cycle.invariant.now ∙ sym (next_state k s) in
    let line : c.tick.result ≡ line_drawn_next (ticks k s).picture.state = c.tick.ensures.line ∙ ap (λ (p : PictureState). line_drawn_next p) c.loop-cycle.invariant.now in
    elim c.match-tick.branch [
      | in-Some+then-from-y w ↦
          let here : w.in-Some.by.ly ≡ c.args.y = sym w.from.ensures ∙ w.if-from-y.true in record {
            legal = c.tick.ensures.legal;
            now = state;
            row =
                subst (λ (row : List ℕ). slice_get (ticks (k + 1) s).picture.rows c.args.y ≡ Some row) (sym w.row-is)
                (row_is_drawn k c.args.y s w.in-Some.by c.region-vram.result.now c.region-oam.result.now c.loop-cycle.row w.draw_by_definition.new.row (sym w.in-Some.is ∙ line) here c.region-vram.ensures.bytes c.region-oam.ensures.bytes
                c.loop-cycle.invariant.row w.draw_by_definition.ensures);
            shades = subst (λ (row : List ℕ). All (λ shade. shade < 4) row) (sym (w.row-is ∙ w.draw_by_definition.ensures)) (drawn_row-small _ _ _);
          }
      | in-Some+else-from-y w ↦ record {
        legal = c.tick.ensures.legal;
        now = state;
        row = subst (λ (row : List ℕ). slice_get (ticks (k + 1) s).picture.rows c.args.y ≡ Some row) (sym w.row-is)
            (row_of_other k c.args.y s w.in-Some.by c.loop-cycle.row (sym w.in-Some.is ∙ line) (λ e. absurd (omega (arith, w.if-from-y.false, w.from.ensures, e))) c.loop-cycle.invariant.row);
        shades = subst (λ (row : List ℕ). All (λ shade. shade < 4) row) (sym w.row-is) c.loop-cycle.invariant.shades;
      }
      | in_default w ↦ record {
        legal = c.tick.ensures.legal;
        now = state;
        row = subst (λ (row : List ℕ). slice_get (ticks (k + 1) s).picture.rows c.args.y ≡ Some row) (sym w.row-is) (row_stays k c.args.y s c.loop-cycle.row (sym w.in_default.is ∙ line) c.loop-cycle.invariant.row);
        shades = subst (λ (row : List ℕ). All (λ shade. shade < 4) row) (sym w.row-is) c.loop-cycle.invariant.shades;
      }
    ]
