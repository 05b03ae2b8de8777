use Rattle.std.proofs.Common.{◌∙◌}
use Rattle.picture_unit.proofs.LatePictures.{caught_up_now}
use Rattle.picture_unit.proofs.late_picture.LatePicture.new.Goals as goal

pub returns : goal.returns
returns c = caught_up_now _ _ c.frame_cycle-frame_cycle.ensures.now ∙ c.in_ok-picture.ensures
