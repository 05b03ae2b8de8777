use Rattle.std.proofs.Common.{◌-◌}
use Rattle.debugger.specs.Listing.{lines_from}
use Rattle.debugger.proofs.Lines.{IsWrittenBut}
use Rattle.debugger.proofs.listing.write_lines.Given as goal

abbrev pub invariant-loop-i : goal.invariant-loop-i
invariant-loop-i g l =
    IsWrittenBut (lines_from l.machine l.address (l.count - l._i)) (lines_from l.machine l.fn.address l.count) (g.W.Output.contents l.fn.out) (g.W.Output.contents l.out)
