use Rattle.std.proofs.Common.{◌≡◌, ◌≤◌, ◌<◌, ◌+◌, ℕ}
use Rattle.sector_device.specs.DiskState.{Settled, sector_at}
use Rattle.sector_device.specs.Runs.{HoldsThroughout, Mixed, WrittenUpTo}
use Rattle.log_format.specs.Log.{log_area}
use Rattle.sector_log.specs.Layout.{replaced}
use Rattle.sector_device.proofs.Runs.{AllWell}
use Rattle.sector_log.proofs.writes.write_log.Given as goal

abbrev pub invariant-loop-index : goal.invariant-loop-index
invariant-loop-index g l =
    let start = g.D.SectorDevice.disk l.fn.device in
    let now = g.D.SectorDevice.disk l.device in
    let new = replaced l.start (log_area l.log) start.sectors in
    record {
      called : AllWell start now;
      below : l.index ≤ l.end;
      moments : start.honest → Settled start → HoldsThroughout start now (Mixed start.sectors new) (Mixed start.sectors new);
      written : start.honest → Settled start → ((k : ℕ) → k < l.start + l.first → sector_at start.sectors k ≡ sector_at new k) → WrittenUpTo start.sectors new (l.start + l.index) now.sectors;
    }
