use Rattle.std.proofs.Common.{◌≡◌, length, drop, IsTrue}
use Rattle.sector_device.specs.Records.{reads_after_all, are_recordable}
use Rattle.sector_device.proofs.replay.replay.Given as goal

abbrev pub invariant-loop-call : goal.invariant-loop-call
invariant-loop-call l = record {
  reads : reads_after_all l.sectors.items (drop l.call-index l.calls) ≡ reads_after_all l.initial.sectors.items l.calls;
  recordable : IsTrue (are_recordable (length l.sectors.items) (drop l.call-index l.calls));
}
