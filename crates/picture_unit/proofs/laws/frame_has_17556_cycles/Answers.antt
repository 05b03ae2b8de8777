use Rattle.picture_unit.proofs.PictureLaws.{frame-cycles}
use Rattle.picture_unit.proofs.laws.frame_has_17556_cycles.Goals as goal

pub returns : goal.returns
returns c = frame-cycles
