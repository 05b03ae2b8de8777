use Rattle.std.proofs.Common.{◌≡◌, ap, ◌∙◌}
use Rattle.picture_unit.specs.Picture.{PictureUnit}
use Rattle.picture_unit.proofs.LatePictures.{to_the_moment, caught_up_now}
use Rattle.picture_unit.proofs.late_picture.LatePicture.restore.Goals as goal

pub returns : goal.returns
returns c =
    let same : c.pass_to.new.self ≡ c.args.self.now = c.pass_to.ensures ∙ to_the_moment c.self.inside.frame_cycle c.self.inside.picture ∙ c.self.view_is in
    caught_up_now _ _ c.frame_cycle-self-inside.ensures.now ∙ c.restore.ensures ∙ ap (λ (u : PictureUnit). record u { state = c.args.state.now }) same
