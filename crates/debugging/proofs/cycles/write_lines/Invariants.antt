use Rattle.std.proofs.Common.{drop}
use Rattle.debugger.proofs.Lines.{IsWrittenBut}
use Rattle.debugging.specs.Profile.{cycles_lines}
use Rattle.debugging.proofs.cycles.write_lines.Given as goal

abbrev pub invariant-loop-offset : goal.invariant-loop-offset
invariant-loop-offset g l = IsWrittenBut (cycles_lines l.offset (drop l.offset l.rom)) (cycles_lines 0 l.fn.rom) (g.W.Output.contents l.fn.out) (g.W.Output.contents l.out)
