use Rattle.std.proofs.Common.{◌≡◌, ◌≤◌, ◌*◌, length, take}
use Rattle.input_entries.specs.Inputs.{inputs}
use Rattle.recording.proofs.packing.count_inputs.Given as goal

abbrev pub invariant-loop-entry : goal.invariant-loop-entry
invariant-loop-entry l = record {
  count : l.count ≡ length (inputs (take l.entry-index l.entries));
  few : l.count ≤ 216000 * l.entry-index;
}
