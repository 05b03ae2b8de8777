use Rattle.std.proofs.Common.{arith}
use Rattle.std.specs.Prelude.{replicate}
use Rattle.picture_lines.proofs.Lanes.{shades_table}
use Rattle.picture_lines.proofs.kernels.shades_of.Goals as goal

pub returns : goal.returns
returns c = λ colour below. shades_table c.args.palette colour (replicate 12 0) (omega arith) below
