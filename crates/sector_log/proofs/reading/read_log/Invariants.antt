use Rattle.std.proofs.Common.{◌≡◌, ◌≤◌, ◌*◌, ◌++◌, length, take, drop, vec_capacity}
use Rattle.log_format.specs.Log.{log_from}
use Rattle.sector_device.specs.Looking.{LooksOnly}
use Rattle.sector_device.proofs.Runs.{AllWell}
use Rattle.sector_log.proofs.reading.read_log.Given as goal

abbrev pub invariant-loop-index : goal.invariant-loop-index
invariant-loop-index g l =
    let start = g.D.SectorDevice.disk l.fn.device in
    let now = g.D.SectorDevice.disk l.device in
    let all = take 32 (drop l.start start.sectors) in
    record {
      called : AllWell start now;
      capacity : vec_capacity l.fn.log ≤ vec_capacity l.log;
      few : length l.log.items ≤ 100 * l.index;
      looked : start.honest → LooksOnly start now;
      log : start.honest → log_from l.version 0 all ≡ l.log.items ++ log_from l.version l.index (drop l.index all);
    }
