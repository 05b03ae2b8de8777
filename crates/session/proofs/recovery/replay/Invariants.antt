use Rattle.std.proofs.Common.{◌≡◌, ◌+◌, ◌≤◌, length, drop, None}
use Rattle.machine.specs.Machine.{after}
use Rattle.input_entries.specs.Inputs.{inputs}
use Rattle.log_format.specs.Inputs.{wrong_from}
use Rattle.session.specs.Inputs.{logged}
use Rattle.session.proofs.recovery.replay.Given as goal

abbrev pub invariant-loop-entry : goal.invariant-loop-entry
invariant-loop-entry l = record {
  machine_is : after l.machine (logged (drop l.entry-index l.log)) ≡ after l.initial.machine (logged l.log);
  count_is : l.count + length (inputs (drop l.entry-index l.log)) ≡ length (inputs l.log);
  none : wrong_from l.entry-index l.count (drop l.entry-index l.log) ≡ None;
  few : l.count ≤ 216000;
}
