use Rattle.std.proofs.Common.{◌≡◌, ◌≤◌, ◌+◌, drop}
use Rattle.log_format.specs.Inputs.{counted}
use Rattle.log_format.proofs.content.counted.Given as goal

abbrev pub invariant-loop-entry : goal.invariant-loop-entry
invariant-loop-entry l = record {
  rest : counted 0 l.log ≡ counted l.count (drop l.entry-index l.log);
  bound : l.count ≤ 216000 + l.entry-index;
}
