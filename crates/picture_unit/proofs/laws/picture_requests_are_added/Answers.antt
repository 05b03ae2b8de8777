use Rattle.picture_unit.proofs.PictureLaws.{picture_ticks}
use Rattle.picture_unit.proofs.laws.picture_requests_are_added.Goals as goal

pub returns : goal.returns
returns c = picture_ticks
