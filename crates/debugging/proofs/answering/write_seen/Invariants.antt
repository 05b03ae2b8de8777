use Rattle.std.proofs.Common.{drop}
use Rattle.std.specs.List.{flat_map}
use Rattle.debugger.specs.Report.{line_seen}
use Rattle.debugger.proofs.Lines.{IsWrittenBut}
use Rattle.debugging.proofs.answering.write_seen.Given as goal

abbrev pub invariant-loop-index : goal.invariant-loop-index
invariant-loop-index g l =
    IsWrittenBut (flat_map line_seen (drop l.index l.debugger.history)) (flat_map line_seen (drop l.fn.first l.fn.debugger.history)) (g.W.Output.contents l.fn.out) (g.W.Output.contents l.out)
