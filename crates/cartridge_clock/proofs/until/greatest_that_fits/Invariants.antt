use Rattle.std.proofs.Common.{◌≡◌, take}
use Rattle.cartridge_clock.specs.Lines.{greatest_fitting}
use Rattle.cartridge_clock.proofs.until.greatest_that_fits.Given as goal

abbrev pub invariant-loop-line : goal.invariant-loop-line
invariant-loop-line l = l.most ≡ greatest_fitting l.count (take l.line-index l.lines)
