use Rattle.std.proofs.Common.{arith}
use Rattle.picture_lines.specs.Bits.{shade_of}
use Rattle.picture_lines.proofs.Lanes.{front_mapped-block, front_mapped-small}
use Rattle.picture_lines.proofs.kernels.map_shades.Goals as goal

pub map_sixteen-requires-clause-colours : goal.map_sixteen-requires-clause-colours
map_sixteen-requires-clause-colours c =
    front_mapped-small (shade_of c.args.palette) c.sixteens.at 16 c.args.colours.now c.sixteens.colours c.sixteens.invariant.mapped c.requires

pub sixteens-preserved : goal.sixteens-preserved
sixteens-preserved c = record {
  within = omega arith;
  mapped = rw (c.map_sixteen.ensures, c.sixteens.invariant.mapped) (front_mapped-block (shade_of c.args.palette) c.sixteens.at 16 c.args.colours.now);
}

pub map_eight-requires-clause-colours : goal.map_eight-requires-clause-colours
map_eight-requires-clause-colours c =
    front_mapped-small (shade_of c.args.palette) c.eights.at 8 c.args.colours.now c.eights.colours c.eights.invariant.mapped c.requires

pub eights-preserved : goal.eights-preserved
eights-preserved c = record {
  within = omega arith;
  mapped = rw (c.map_eight.ensures, c.eights.invariant.mapped) (front_mapped-block (shade_of c.args.palette) c.eights.at 8 c.args.colours.now);
}
