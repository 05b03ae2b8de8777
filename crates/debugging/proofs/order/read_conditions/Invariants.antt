use Rattle.std.proofs.Common.{◌≡◌, ◌≤◌, length}
use Rattle.debugging.specs.Orders.{all_conditions}
use Rattle.debugging.specs.Words.{bytes_left, words_after}
use Rattle.debugging.proofs.Words.{onto}
use Rattle.debugging.proofs.order.read_conditions.Given as goal

abbrev pub invariant-loop-rest : goal.invariant-loop-rest
invariant-loop-rest l = record {
  read : all_conditions l.is_mixed (words_after l.text) ≡ onto l.conditions.items (all_conditions l.is_mixed (words_after l.rest));
  few : length l.conditions.items ≤ 16;
}

abbrev pub decreases-loop-rest : goal.decreases-loop-rest
decreases-loop-rest l = bytes_left l.rest
