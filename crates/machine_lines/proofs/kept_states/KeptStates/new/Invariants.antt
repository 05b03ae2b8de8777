use Rattle.std.proofs.Common.{◌≡◌, [], length}
use Rattle.std.specs.List.{All}
use Rattle.machine_lines.proofs.kept_states.KeptStates.new.Given as goal

abbrev pub invariant-loop-number : goal.invariant-loop-number
invariant-loop-number l = record {
  empty : All (λ v. v.items ≡ []) l.states.items;
  count : length l.states.items ≡ l._number;
}
