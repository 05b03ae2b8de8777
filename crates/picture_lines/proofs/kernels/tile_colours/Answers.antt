use Rattle.picture_lines.specs.Bits.{plane_colours, plane_colour}
use Rattle.picture_lines.proofs.Lanes.{lane_colour}
use Rattle.picture_lines.proofs.kernels.tile_colours.Goals as goal

pub returns : goal.returns
unfolding plane_colours plane_colour
returns c = simp lane_colour
