use Rattle.std.proofs.Common.{◌≡◌, ◌≤◌, length, drop, IsTrue}
use Rattle.sector_device.specs.Records.{cut, writes_in, are_recordable}
use Rattle.sector_device.proofs.replay.apply_chosen.Given as goal

abbrev pub invariant-loop-call : goal.invariant-loop-call
invariant-loop-call l = record {
  cut : cut l.sectors.items (writes_in (drop l.call-index l.calls)) (drop l.choice l.kept) ≡ cut l.initial.sectors.items (writes_in l.calls) l.kept;
  recordable : IsTrue (are_recordable (length l.sectors.items) (drop l.call-index l.calls));
  choice : l.choice ≤ l.call-index;
}
