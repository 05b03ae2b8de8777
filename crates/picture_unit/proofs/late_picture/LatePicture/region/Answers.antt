use Rattle.std.proofs.Common.{ap, sym, ◌∙◌}
use Rattle.picture_unit.specs.Picture.{PictureUnit}
use Rattle.picture_unit.specs.Stores.{region_of}
use Rattle.picture_unit.specs.LatePicture.{moment}
use Rattle.picture_unit.proofs.LatePictures.{region_kept}
use Rattle.picture_unit.proofs.late_picture.LatePicture.region.Goals as goal

pub returns-clause-bytes : goal.returns-clause-bytes
returns-clause-bytes c =
    c.region.ensures.bytes ∙ sym (region_kept (moment c.self.inside.frame_cycle c.self.inside.picture) c.self.inside.picture c.args.region) ∙ ap (λ (u : PictureUnit). region_of u c.args.region) c.self.view_is
