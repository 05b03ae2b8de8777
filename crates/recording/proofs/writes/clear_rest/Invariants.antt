use Rattle.sector_device.specs.DiskState.{Settled}
use Rattle.sector_device.specs.Runs.{HoldsThroughout, Mixed, WrittenUpTo}
use Rattle.recording.specs.Keeping.{blanked}
use Rattle.sector_device.proofs.Runs.{AllWell}
use Rattle.recording.proofs.writes.clear_rest.Given as goal

abbrev pub invariant-loop-at : goal.invariant-loop-at
invariant-loop-at g l =
    let start = g.D.SectorDevice.disk l.fn.device in
    let now = g.D.SectorDevice.disk l.device in
    let new = blanked l.from start.sectors in
    record {
      called : AllWell start now;
      moments : start.honest → Settled start → HoldsThroughout start now (Mixed start.sectors new) (Mixed start.sectors new);
      written : start.honest → Settled start → WrittenUpTo start.sectors new l.at now.sectors;
    }
