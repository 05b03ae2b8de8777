use Rattle.std.proofs.Common.{◌≡◌, length, vec_capacity}
use Rattle.std.specs.Prelude.{IsTrue}
use Rattle.sector_device.specs.Records.{are_sectors}
use Rattle.sector_device.proofs.file.read_sectors.Given as goal

abbrev pub invariant-loop-at : goal.invariant-loop-at
invariant-loop-at l = record {
  size : length l.sectors.items ≡ l.at;
  sized : IsTrue (are_sectors l.sectors.items);
  room : vec_capacity l.sectors ≡ l.count;
}
