use Rattle.std.proofs.Common.{◌+◌}
use Rattle.sector_device.specs.DiskState.{Settled}
use Rattle.sector_device.specs.Runs.{HoldsThroughout, Mixed, WrittenUpTo}
use Rattle.sector_device.proofs.Runs.{AllWell}
use Rattle.log_format.specs.Log.{fresh_area}
use Rattle.sector_log.specs.Layout.{replaced}
use Rattle.sector_log.proofs.writes.fill_area.Given as goal

abbrev pub invariant-loop-index : goal.invariant-loop-index
invariant-loop-index g l =
    let start = g.D.SectorDevice.disk l.fn.device in
    let now = g.D.SectorDevice.disk l.device in
    let new = replaced l.start (fresh_area l.blob) start.sectors in
    record {
      called : AllWell start now;
      moments : start.honest → Settled start → HoldsThroughout start now (Mixed start.sectors new) (Mixed start.sectors new);
      written : start.honest → Settled start → WrittenUpTo start.sectors new (l.start + l.index) now.sectors;
    }
