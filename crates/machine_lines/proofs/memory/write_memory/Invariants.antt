use Rattle.std.proofs.Common.{◌≡◌, ◌-◌, ◌+◌, ◌*◌, ◌/◌, ◌%◌}
use Rattle.debugger.proofs.Lines.{IsWrittenBut}
use Rattle.machine_lines.specs.Texts.{full_lines}
use Rattle.machine_lines.proofs.memory.write_memory.Given as goal

abbrev pub invariant-loop-i : goal.invariant-loop-i
invariant-loop-i g l = record {
  place : l.place ≡ (l.address + 16 * l._i) % 65536;
  written : IsWrittenBut (full_lines l.machine l.place (l.count / 16 - l._i)) (full_lines l.machine l.address (l.count / 16)) (g.W.Output.contents l.fn.out) (g.W.Output.contents l.out);
}
