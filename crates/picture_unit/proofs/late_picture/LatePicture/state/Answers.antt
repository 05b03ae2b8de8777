use Rattle.std.proofs.Common.{◌≡◌, ◌-◌, ℕ, length, ap, sym, ◌∙◌, arith}
use Rattle.picture_unit.specs.Picture.{PictureUnit}
use Rattle.picture_unit.specs.Laws.{frame_cycle}
use Rattle.picture_unit.specs.LatePicture.{moment, state_after}
use Rattle.picture_unit.proofs.LatePictures.{bare_state, whole_now, is_moment}
use Rattle.picture_unit.proofs.late_picture.LatePicture.state.Goals as goal

pub overflow_sub-late : goal.overflow_sub-late
overflow_sub-late c =
    let here = is_moment _ _ _ c.self.invariant _ _ c.self.view_is c.frame_cycle.ensures.now in
    omega (arith, here, c.self.invariant.late, c.frame_cycle-2.ensures.now)

pub returns-clause-state : goal.returns-clause-state
returns-clause-state c =
    let s = c.self.inside.picture in
    let now = moment c.self.inside.frame_cycle s in
    let here = is_moment _ _ _ c.self.invariant _ _ c.self.view_is c.frame_cycle.ensures.now in
    let late : c.frame_cycle.result - c.frame_cycle-2.result ≡ now - frame_cycle s.state =
    ap (λ (k : ℕ). k - c.frame_cycle-2.result) here ∙ ap (λ (k : ℕ). now - k) c.frame_cycle-2.ensures.now in
    c.after.ensures.state ∙ ap (state_after (c.frame_cycle.result - c.frame_cycle-2.result)) c.state.ensures.state
    ∙ ap (λ (k : ℕ). state_after k s.state) late
    ∙ sym (bare_state (now - frame_cycle s.state) s) ∙ ap (λ (u : PictureUnit). u.state) c.self.view_is

pub returns-clause-rows : goal.returns-clause-rows
returns-clause-rows c = sym (ap (λ (u : PictureUnit). length u.rows) c.self.view_is) ∙ (whole_now _ _ _ c.self.invariant).row_count
