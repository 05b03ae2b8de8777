use Rattle.std.proofs.Common.{◌≡◌, replicate, vec_capacity}
use Rattle.embedding.proofs.host_device.zero_sectors.Given as goal

abbrev pub invariant-loop : goal.invariant-loop
invariant-loop l = record {
  items : l.sectors.items ≡ replicate l.counter (replicate 512 0);
  room : vec_capacity l.sectors ≡ l.count;
}
