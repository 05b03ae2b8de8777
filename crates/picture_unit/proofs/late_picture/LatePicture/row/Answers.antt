use Rattle.std.proofs.Common.{◌≡◌, ◌-◌, ℕ, ap, sym, ◌∙◌, arith}
use Rattle.std.specs.Prelude.{slice_get}
use Rattle.picture_unit.specs.Picture.{PictureUnit, ticks}
use Rattle.picture_unit.specs.Laws.{frame_cycle}
use Rattle.picture_unit.specs.LatePicture.{moment}
use Rattle.picture_unit.proofs.LatePictures.{is_moment}
use Rattle.picture_unit.proofs.late_picture.LatePicture.row.Goals as goal

pub overflow_sub-late : goal.overflow_sub-late
overflow_sub-late c =
    let here = is_moment _ _ _ c.self.invariant _ _ c.self.view_is c.frame_cycle.ensures.now in
    omega (arith, here, c.self.invariant.late, c.frame_cycle-2.ensures.now)

pub returns-clause-row : goal.returns-clause-row
returns-clause-row c =
    let s = c.self.inside.picture in
    let now = moment c.self.inside.frame_cycle s in
    let here = is_moment _ _ _ c.self.invariant _ _ c.self.view_is c.frame_cycle.ensures.now in
    let late : c.frame_cycle.result - c.frame_cycle-2.result ≡ now - frame_cycle s.state =
    ap (λ (k : ℕ). k - c.frame_cycle-2.result) here ∙ ap (λ (k : ℕ). now - k) c.frame_cycle-2.ensures.now in
    sym (ap (λ (u : PictureUnit). slice_get u.rows c.args.y) c.self.view_is)
    ∙ sym (ap (λ (k : ℕ). slice_get (ticks k s).picture.rows c.args.y) late) ∙ c.row_after.ensures.row
