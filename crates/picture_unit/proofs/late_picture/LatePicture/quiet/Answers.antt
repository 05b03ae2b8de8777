use Rattle.std.proofs.Common.{◌+◌, ◌-◌, ◌<◌, ℕ, ap, subst, sym, ◌∙◌}
use Rattle.picture_unit.specs.Picture.{PictureUnit}
use Rattle.picture_unit.specs.Laws.{frame_cycle}
use Rattle.picture_unit.specs.LatePicture.{moment}
use Rattle.picture_unit.specs.Quiet.{AreQuiet}
use Rattle.picture_unit.proofs.LatePictures.{quiet_in_frame, is_moment}
use Rattle.picture_unit.proofs.late_picture.LatePicture.quiet.Goals as goal

pub returns-clause-quiet : goal.returns-clause-quiet
returns-clause-quiet c =
    let m = moment c.self.inside.frame_cycle c.self.inside.picture in
    let same = c.saturating_sub.ensures ∙ ap (λ (k : ℕ). c.self.inside.quiet_until - k) (is_moment _ _ _ c.self.invariant _ _ c.self.view_is c.frame_cycle.ensures.now) in
    subst (λ (n : ℕ). AreQuiet n c.args.self.now.state) (sym same)
    (subst (λ (u : PictureUnit). AreQuiet (c.self.inside.quiet_until - m) u.state) c.self.view_is c.self.invariant.coming)

pub returns-clause-frame : goal.returns-clause-frame
returns-clause-frame c =
    let m = moment c.self.inside.frame_cycle c.self.inside.picture in
    let same = c.saturating_sub.ensures ∙ ap (λ (k : ℕ). c.self.inside.quiet_until - k) (is_moment _ _ _ c.self.invariant _ _ c.self.view_is c.frame_cycle.ensures.now) in
    subst (λ (n : ℕ). frame_cycle c.args.self.now.state + n < 17556) (sym same)
    (subst (λ (u : PictureUnit). frame_cycle u.state + (c.self.inside.quiet_until - m) < 17556) c.self.view_is (quiet_in_frame _ _ _ c.self.invariant))
