use Rattle.std.proofs.Common.{◌≡◌, ◌≤◌, ◌-◌, length}
use Rattle.picture_lines.specs.Bits.{shade_of}
use Rattle.picture_lines.proofs.Lanes.{front_mapped}
use Rattle.picture_lines.proofs.kernels.map_shades.Given as goal

abbrev pub invariant-sixteens : goal.invariant-sixteens
invariant-sixteens l = record {
  within : l.at ≤ length l.fn.colours;
  mapped : l.colours ≡ front_mapped (shade_of l.palette) l.at l.fn.colours;
}

abbrev pub decreases-sixteens : goal.decreases-sixteens
decreases-sixteens l = length l.fn.colours - l.at

abbrev pub invariant-eights : goal.invariant-eights
invariant-eights l = record {
  within : l.at ≤ length l.fn.colours;
  mapped : l.colours ≡ front_mapped (shade_of l.palette) l.at l.fn.colours;
}

abbrev pub decreases-eights : goal.decreases-eights
decreases-eights l = length l.fn.colours - l.at

abbrev pub invariant-rest : goal.invariant-rest
invariant-rest l = record {
  within : l.at ≤ length l.fn.colours;
  mapped : l.colours ≡ front_mapped (shade_of l.palette) l.at l.fn.colours;
}

abbrev pub decreases-rest : goal.decreases-rest
decreases-rest l = length l.fn.colours - l.at
