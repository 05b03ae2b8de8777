use Rattle.std.proofs.Common.{◌≡◌, ◌≤◌, drop, vec_capacity}
use Rattle.recording.specs.Format.{entries_from}
use Rattle.recording.proofs.parse.read_all.Given as goal

abbrev pub invariant-loop-i : goal.invariant-loop-i
invariant-loop-i l = record {
  items : l.entries.items ≡ entries_from l.i (drop 10 l.sector);
  capacity : vec_capacity l.initial.entries ≤ vec_capacity l.entries;
}
