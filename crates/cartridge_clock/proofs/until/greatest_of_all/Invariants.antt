use Rattle.std.proofs.Common.{◌≡◌, take}
use Rattle.cartridge_clock.specs.Lines.{greatest}
use Rattle.cartridge_clock.proofs.until.greatest_of_all.Given as goal

abbrev pub invariant-loop-line : goal.invariant-loop-line
invariant-loop-line l = l.most ≡ greatest (take l.line-index l.lines)
