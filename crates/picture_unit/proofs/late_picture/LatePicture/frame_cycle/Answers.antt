use Rattle.std.proofs.Common.{ap, sym, ◌∙◌}
use Rattle.picture_unit.specs.Picture.{PictureUnit}
use Rattle.picture_unit.specs.Laws.{frame_cycle}
use Rattle.picture_unit.proofs.LatePictures.{position, moment_on, moment_off}
use Rattle.picture_unit.proofs.late_picture.LatePicture.frame_cycle.Goals as goal

pub returns-then-is_on-clause-now : goal.returns-then-is_on-clause-now
returns-then-is_on-clause-now c =
    sym (position _ _ _ c.self.invariant ∙ moment_on c.self.inside.frame_cycle c.self.inside.picture (sym c.is_on.ensures ∙ c.if-is_on.true)) ∙ ap (λ (u : PictureUnit). frame_cycle u.state) c.self.view_is

pub returns-else-is_on-clause-now : goal.returns-else-is_on-clause-now
returns-else-is_on-clause-now c =
    c.frame_cycle.ensures.now ∙ sym (position _ _ _ c.self.invariant ∙ moment_off c.self.inside.frame_cycle c.self.inside.picture (sym c.is_on.ensures ∙ c.if-is_on.false)) ∙ ap (λ (u : PictureUnit). frame_cycle u.state) c.self.view_is
