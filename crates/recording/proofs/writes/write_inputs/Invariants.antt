use Rattle.std.proofs.Common.{◌≡◌, ◌≤◌, ◌<◌, ◌+◌, ◌-◌, ◌*◌, ◌++◌, min, length, take, drop, vec_capacity}
use Rattle.sector_device.specs.DiskState.{Settled}
use Rattle.sector_device.specs.Runs.{HoldsThroughout, Mixed, WrittenUpTo}
use Rattle.input_entries.specs.Growing.{with_inputs}
use Rattle.recording.specs.Keeping.{AreGood, grown_image}
use Rattle.recording.specs.Sizes.{sectors_for}
use Rattle.sector_device.proofs.Runs.{AllWell}
use Rattle.recording.proofs.writes.write_inputs.Given as goal

abbrev pub invariant-loop-done : goal.invariant-loop-done
invariant-loop-done g l =
    let start = g.D.SectorDevice.disk l.initial.device in
    let now = g.D.SectorDevice.disk l.device in
    let list = with_inputs l.initial.tail.items l.more in
    let new = grown_image l.initial.full list start.sectors in
    record {
      called : AllWell start now;
      capacity : vec_capacity l.initial.tail ≤ vec_capacity l.tail;
      later : l.initial.full ≤ l.full;
      short : length l.tail.items < 83;
      good : AreGood l.tail.items;
      done : l.done ≤ length l.more;
      within : 83 * (l.full - l.initial.full) ≤ length list;
      is : list ≡ take (83 * (l.full - l.initial.full)) list ++ with_inputs l.tail.items (drop l.done l.more);
      next : 0 < l.done → l.done < length l.more → length l.tail.items ≡ 0;
      moments : start.honest → Settled start → HoldsThroughout start now (Mixed start.sectors new) (Mixed start.sectors new);
      written : start.honest → Settled start → WrittenUpTo start.sectors new (l.full + 1 + min (sectors_for (length l.tail.items)) l.done) now.sectors;
    }

abbrev pub decreases-loop-done : goal.decreases-loop-done
decreases-loop-done g l = length l.more - l.done
