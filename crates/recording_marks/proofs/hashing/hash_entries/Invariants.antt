use Rattle.std.proofs.Common.{take}
use Rattle.input_entries.specs.Inputs.{inputs, all_entries}
use Rattle.recording_marks.specs.Digests.{HasHashed}
use Rattle.recording_marks.proofs.hashing.hash_entries.Given as goal

abbrev pub invariant-loop-entry : goal.invariant-loop-entry
invariant-loop-entry l = all_entries l.entries → HasHashed l.initial.hasher l.hasher l.initial.left l.left (inputs (take l.entry-index l.entries))
