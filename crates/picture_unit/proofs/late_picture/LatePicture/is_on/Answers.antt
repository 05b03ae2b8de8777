use Rattle.std.proofs.Common.{◌-◌, ap, sym, ◌∙◌}
use Rattle.picture_unit.specs.Picture.{PictureUnit, is_on}
use Rattle.picture_unit.specs.Laws.{frame_cycle}
use Rattle.picture_unit.specs.LatePicture.{moment}
use Rattle.picture_unit.proofs.LatePictures.{on_kept}
use Rattle.picture_unit.proofs.late_picture.LatePicture.is_on.Goals as goal

pub returns : goal.returns
returns c =
    let s = c.self.inside.picture in
    c.is_on.ensures ∙ sym (on_kept (moment c.self.inside.frame_cycle s - frame_cycle s.state) s) ∙ ap (λ (u : PictureUnit). is_on u.state) c.self.view_is
