use Rattle.std.proofs.Common.{◌<◌, ◌-◌, arith}
use Rattle.recording.proofs.Images.{most_is}
use Rattle.recording.proofs.recording.Recording.fits.Goals as goal

pub fits-requires-clause-sectors : goal.fits-requires-clause-sectors
fits-requires-clause-sectors g c =
    let small : c.list_sectors_in.result - c.args.self.now.full < 4294967296 = omega (arith, c.list_sectors_in.ensures, most_is) in
    omega (arith, small)
