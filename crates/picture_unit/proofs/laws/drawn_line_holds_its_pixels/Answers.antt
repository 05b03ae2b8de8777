use Rattle.picture_unit.proofs.PictureLaws.{drawn_line-pixels}
use Rattle.picture_unit.proofs.laws.drawn_line_holds_its_pixels.Goals as goal

pub returns : goal.returns
returns c = drawn_line-pixels
