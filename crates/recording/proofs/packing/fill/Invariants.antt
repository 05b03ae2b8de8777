use Rattle.std.proofs.Common.{◌≡◌, ◌≤◌, length, take, vec_capacity}
use Rattle.input_entries.specs.Inputs.{AllFive}
use Rattle.input_entries.specs.Growing.{with_inputs}
use Rattle.recording.specs.Keeping.{AreGood}
use Rattle.recording.proofs.packing.fill.Given as goal

abbrev pub invariant-loop-i : goal.invariant-loop-i
invariant-loop-i l = record {
  items : l.entries.items ≡ with_inputs l.initial.entries.items (take l.i l.more);
  short : length l.entries.items ≤ 83;
  capacity : vec_capacity l.initial.entries ≤ vec_capacity l.entries;
  good : AreGood l.entries.items;
  five : AllFive (take l.i l.more);
}
