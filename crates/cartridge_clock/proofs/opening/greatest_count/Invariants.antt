use Rattle.std.proofs.Common.{◌≡◌, take}
use Rattle.cartridge_clock.specs.Lines.{most_inputs}
use Rattle.cartridge_clock.proofs.opening.greatest_count.Given as goal

abbrev pub invariant-loop-line : goal.invariant-loop-line
invariant-loop-line l = l.most ≡ most_inputs (take l.line-index l.lines)
