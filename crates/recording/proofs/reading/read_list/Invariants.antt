use Rattle.std.proofs.Common.{◌≡◌, ◌≤◌, ◌<◌, ◌+◌, ◌*◌, ℕ, length, take, vec_capacity}
use Rattle.sector_device.specs.DiskState.{sector_at}
use Rattle.sector_device.specs.Looking.{LooksOnly}
use Rattle.input_entries.specs.Inputs.{inputs}
use Rattle.recording.specs.Format.{entries_at, list_from}
use Rattle.recording.specs.Sizes.{list_sectors}
use Rattle.sector_device.proofs.Runs.{AllWell}
use Rattle.recording.proofs.reading.read_list.Given as goal

abbrev pub invariant-loop-full : goal.invariant-loop-full
invariant-loop-full g l =
    let start = g.D.SectorDevice.disk l.fn.device in
    let now = g.D.SectorDevice.disk l.device in
    record {
      called : AllWell start now;
      capacity : vec_capacity l.fn.tail ≤ vec_capacity l.tail;
      few : l.input_count ≤ 17928000 * l.full;
      looked : start.honest → LooksOnly start now;
      each_full : start.honest → (k : ℕ) → k < l.full → length (entries_at (k + 1) (sector_at (list_sectors start.sectors) k)) ≡ 83;
      counted : start.honest → l.input_count ≡ length (inputs (list_from 1 (take l.full (list_sectors start.sectors))));
    }
