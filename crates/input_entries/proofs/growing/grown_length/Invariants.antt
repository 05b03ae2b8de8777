use Rattle.std.proofs.Common.{◌≡◌, ◌≤◌, ◌+◌, length, take}
use Rattle.input_entries.specs.Inputs.{AllFive}
use Rattle.input_entries.specs.Growing.{with_inputs, last_of}
use Rattle.input_entries.proofs.growing.grown_length.Given as goal

abbrev pub invariant-loop-input : goal.invariant-loop-input
invariant-loop-input l = record {
  count : l.count ≡ length (with_inputs l.entries (take l.input-index l.more));
  last : last_of (with_inputs l.entries (take l.input-index l.more)) ≡ l.last;
  few : l.count ≤ length l.entries + l.input-index;
  five : AllFive (take l.input-index l.more);
}
