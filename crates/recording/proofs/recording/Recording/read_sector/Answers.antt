use Rattle.std.proofs.Common.{◌<◌, arith}
use Rattle.recording.proofs.Images.{most_is}
use Rattle.recording.proofs.recording.Recording.read_sector.Goals as goal

pub overflow_cast-number : goal.overflow_cast-number
overflow_cast-number g c =
    let small : c.args.number < 4294967296 = omega (arith, c.requires.used, (c.args.self.now.kept c.if-self.false).placed, most_is) in
    omega (arith, small)
