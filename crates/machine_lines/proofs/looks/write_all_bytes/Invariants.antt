use Rattle.debugger.proofs.Lines.{IsWrittenBut}
use Rattle.machine.specs.Looking.{bytes_from}
use Rattle.machine_lines.proofs.looks.write_all_bytes.Given as goal

abbrev pub invariant-loop-left : goal.invariant-loop-left
invariant-loop-left g l = IsWrittenBut (bytes_from l.machine l.place l.left) (bytes_from l.machine l.address l.count) (g.W.Output.contents l.fn.out) (g.W.Output.contents l.out)

abbrev pub decreases-loop-left : goal.decreases-loop-left
decreases-loop-left g l = l.left
