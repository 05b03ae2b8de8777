use Rattle.std.proofs.Common.{◌≡◌, ◌≤◌, ◌++◌, take, drop, vec_capacity}
use Rattle.input_entries.specs.Inputs.{AllFive}
use Rattle.input_entries.specs.Growing.{with_inputs}
use Rattle.log_format.proofs.entries.add_inputs.Given as goal

abbrev pub invariant-loop-input : goal.invariant-loop-input
invariant-loop-input l = record {
  items : l.log.items ≡ take l.sealed l.initial.log.items ++ with_inputs (drop l.sealed l.initial.log.items) (take l.input-index l.more);
  capacity : vec_capacity l.initial.log ≤ vec_capacity l.log;
  five : AllFive (take l.input-index l.more);
}
