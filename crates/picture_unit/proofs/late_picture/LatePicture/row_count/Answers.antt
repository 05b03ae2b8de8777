use Rattle.std.proofs.Common.{length, ap, sym, ◌∙◌}
use Rattle.picture_unit.specs.Picture.{PictureUnit}
use Rattle.picture_unit.proofs.LatePictures.{whole_now}
use Rattle.picture_unit.proofs.late_picture.LatePicture.row_count.Goals as goal

pub returns-clause-count : goal.returns-clause-count
returns-clause-count c =
    c.row_count.ensures.all ∙ sym (whole_now _ _ _ c.self.invariant).row_count ∙ ap (λ (u : PictureUnit). length u.rows) c.self.view_is
