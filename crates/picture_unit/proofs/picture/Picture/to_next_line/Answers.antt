use Rattle.picture_unit.proofs.LatePictures.{line_of_many}
use Rattle.picture_unit.proofs.picture.Picture.to_next_line.Goals as goal

pub returns-then-cycles-ge114-clause-ticks : goal.returns-then-cycles-ge114-clause-ticks
returns-then-cycles-ge114-clause-ticks c = line_of_many c.args.cycles _ _ c.if-cycles-ge114.true c.pass_line.ensures.ticks
