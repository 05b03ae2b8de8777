use Rattle.std.proofs.Common.{◌≡◌, ◌≤◌, ◌*◌, ◌-◌, ◌++◌, length, take, drop, vec_capacity, min}
use Rattle.std.specs.List.{flat_map}
use Rattle.sector_device.specs.Looking.{LooksOnly}
use Rattle.sector_device.proofs.Runs.{AllWell}
use Rattle.sector_log.proofs.reading.read_blob.Given as goal

abbrev pub invariant-loop-index : goal.invariant-loop-index
invariant-loop-index g l =
    let start = g.D.SectorDevice.disk l.fn.device in
    let now = g.D.SectorDevice.disk l.device in
    let all = take l.room (drop l.start start.sectors) in
    record {
      called : AllWell start now;
      capacity : vec_capacity l.fn.blob ≤ vec_capacity l.blob;
      done : length l.blob.items ≡ min (512 * l.index) l.size;
      looked : start.honest → LooksOnly start now;
      blob : start.honest → take l.size (flat_map (λ s. s) all) ≡ l.blob.items ++ take (l.size - 512 * l.index) (flat_map (λ s. s) (drop l.index all));
    }
