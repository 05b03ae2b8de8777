use Rattle.std.proofs.Common.{◌≡◌, ◌+◌, ◌*◌, ◌-◌, ◌++◌, length}
use Rattle.exact_text.specs.Hex.{word_text}
use Rattle.machine_lines.specs.Texts.{bytes_from}
use Rattle.machine_lines.proofs.memory.line.Given as goal

abbrev pub invariant-loop-i : goal.invariant-loop-i
invariant-loop-i l = record {
  text : l.text.bytes ++ bytes_from l.machine l.place (l.count - l._i) ≡ word_text l.address ++ bytes_from l.machine l.address l.count;
  length : length l.text.bytes ≡ 4 + 3 * l._i;
}
