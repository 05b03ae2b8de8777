use Rattle.std.proofs.Common.{◌≤◌, sym, arith}
use Rattle.picture_unit.proofs.LatePictures.{fewer_quiet, no_vblank, no_stat}
use Rattle.picture_unit.proofs.late_picture.LatePicture.pass.Goals as goal

pub count-requires : goal.count-requires
count-requires c = λ _.
    let enough : c.args.cycles ≤ c.quiet.result = omega (arith, c.if-cycles-from.false, c.from.ensures) in
    fewer_quiet c.quiet.result c.args.cycles c.args.self.now enough c.quiet.ensures.quiet

pub returns-clause-vblank : goal.returns-clause-vblank
returns-clause-vblank c =
    let enough : c.args.cycles ≤ c.quiet.result = omega (arith, c.if-cycles-from.false, c.from.ensures) in
    sym (no_vblank c.args.cycles c.args.self.now (fewer_quiet c.quiet.result c.args.cycles c.args.self.now enough c.quiet.ensures.quiet))

pub returns-clause-stat : goal.returns-clause-stat
returns-clause-stat c =
    let enough : c.args.cycles ≤ c.quiet.result = omega (arith, c.if-cycles-from.false, c.from.ensures) in
    sym (no_stat c.args.cycles c.args.self.now (fewer_quiet c.quiet.result c.args.cycles c.args.self.now enough c.quiet.ensures.quiet))
