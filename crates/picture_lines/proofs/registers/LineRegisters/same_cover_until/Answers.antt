use Rattle.std.proofs.Common.{arith}
use Rattle.picture_lines.proofs.Objects.{height-small, covers-above, covers-within, covers-below}
use Rattle.picture_lines.proofs.registers.LineRegisters.same_cover_until.Goals as goal

pub returns-then-line-top-clause-same : goal.returns-then-line-top-clause-same
returns-then-line-top-clause-same c s low below tall = covers-above s c.args.self.now c.args.object.now tall c.if-line-top.true below

pub overflow_add-bottom : goal.overflow_add-bottom
overflow_add-bottom c = let small = height-small c.args.self.now in omega (arith, c.object_height.ensures, small)

pub returns-then-line-bottom-clause-same : goal.returns-then-line-bottom-clause-same
returns-then-line-bottom-clause-same c s low below tall =
    covers-within s c.args.self.now c.args.object.now tall (omega (arith, c.if-line-top.false)) low (omega (arith, c.object_height.ensures, below))

pub returns-else-line-bottom-clause-same : goal.returns-else-line-bottom-clause-same
returns-else-line-bottom-clause-same c s low below tall =
    covers-below s c.args.self.now c.args.object.now tall (omega (arith, c.object_height.ensures, c.if-line-bottom.false)) low
