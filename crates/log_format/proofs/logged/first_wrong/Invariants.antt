use Rattle.std.proofs.Common.{◌≡◌, ◌≤◌, drop}
use Rattle.log_format.specs.Inputs.{first_wrong, wrong_from}
use Rattle.log_format.proofs.logged.first_wrong.Given as goal

abbrev pub invariant-loop-index : goal.invariant-loop-index
invariant-loop-index l = record {
  rest : first_wrong l.log ≡ wrong_from l.index l.before (drop l.index l.log);
  bound : l.before ≤ 216000;
}
