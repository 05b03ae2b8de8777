use Rattle.std.proofs.Common.{◌≡◌, ◌<◌, ℕ}
use Rattle.sector_device.specs.DiskState.{sector_at}
use Rattle.sector_device.specs.Looking.{LooksOnly}
use Rattle.recording.specs.Format.{blank}
use Rattle.sector_device.proofs.Runs.{AllWell}
use Rattle.recording.proofs.reading.is_blank.Given as goal

abbrev pub invariant-loop-at : goal.invariant-loop-at
invariant-loop-at g l =
    let start = g.D.SectorDevice.disk l.fn.device in
    let now = g.D.SectorDevice.disk l.device in
    record {
      called : AllWell start now;
      looked : start.honest → LooksOnly start now;
      blank : start.honest → (k : ℕ) → k < l.at → sector_at start.sectors k ≡ blank;
    }
