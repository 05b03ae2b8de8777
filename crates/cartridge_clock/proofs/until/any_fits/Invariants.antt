use Rattle.std.proofs.Common.{◌≡◌, take}
use Rattle.cartridge_clock.specs.Lines.{fits}
use Rattle.cartridge_clock.proofs.until.any_fits.Given as goal

abbrev pub invariant-loop-line : goal.invariant-loop-line
invariant-loop-line l = l.found ≡ fits l.count (take l.line-index l.lines)
