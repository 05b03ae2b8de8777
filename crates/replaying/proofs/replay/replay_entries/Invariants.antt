use Rattle.std.proofs.Common.{take}
use Rattle.input_entries.specs.Inputs.{inputs, all_entries}
use Rattle.replaying.specs.Replayed.{HasPlayed, HasReplayed}
use Rattle.replaying.proofs.replay.replay_entries.Given as goal

abbrev pub invariant-loop-entry : goal.invariant-loop-entry
invariant-loop-entry l = record {
  played : HasPlayed l.initial.machine l.machine;
  replayed : all_entries l.entries → HasReplayed l.initial.machine l.machine l.initial.left l.left (inputs (take l.entry-index l.entries));
}
