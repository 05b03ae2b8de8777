use Rattle.std.proofs.Common.{◌≡◌, ◌<◌, ℕ, [], length, get_or}
use Rattle.snapshot.specs.Reading.{with_rows, row_in}
use Rattle.snapshot.proofs.from_bytes.set_rows.Given as goal

abbrev pub invariant-loop-y : goal.invariant-loop-y
invariant-loop-y l = record {
  same : l.machine ≡ with_rows l.machine.processor.memory.picture.picture.rows l.initial.machine;
  count : length l.machine.processor.memory.picture.picture.rows ≡ 144;
  done : (k : ℕ) → k < l.y → get_or l.machine.processor.memory.picture.picture.rows k [] ≡ row_in l.picture k;
}
