use Rattle.std.proofs.Common.{◌≡◌, length, ap}
use Rattle.std.proofs.lemmas.Simd.{length-chunk}
use lib.Lanes.{chunk, put_chunk}
use Rattle.picture_lines.proofs.Lanes.{places_fit, shades_by_places}
use Rattle.picture_lines.proofs.kernels.map_sixteen.Goals as goal

pub swizzle-shades : goal.swizzle-shades
swizzle-shades c =
    places_fit (chunk c.args.at 16 c.args.colours.now) (length-chunk c.args.at 16 c.args.colours.now c.requires.room) c.requires.colours

pub returns : goal.returns
returns c =
    let xs = chunk c.args.at 16 c.args.colours.now in
    let size : length xs ≡ 16 = length-chunk c.args.at 16 c.args.colours.now c.requires.room in
    ap (put_chunk c.args.at c.args.colours.now) (shades_by_places c.args.palette c.shades_of.result xs size c.shades_of.ensures c.requires.colours)
