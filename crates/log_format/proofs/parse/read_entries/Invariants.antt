use Rattle.std.proofs.Common.{◌≡◌, ◌≤◌, ◌++◌, drop, vec_capacity}
use Rattle.log_format.specs.Log.{entries_from}
use Rattle.log_format.proofs.parse.read_entries.Given as goal

abbrev pub invariant-loop-i : goal.invariant-loop-i
invariant-loop-i l = record {
  items : l.log.items ≡ l.initial.log.items ++ entries_from l.version l.i (drop 8 l.sector);
  capacity : vec_capacity l.initial.log ≤ vec_capacity l.log;
}
