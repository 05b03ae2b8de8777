-- Calls that only look, one after another.
use Rattle.sector_device.specs.DiskState.{DiskState}
use Rattle.sector_device.specs.Looking.{HasLooked, LooksOnly}

pub looks_only : {old now : DiskState} → HasLooked old now → LooksOnly old now
looks_only looked = record {
  honest = looked.honest;
  sectors = looked.sectors;
  images = looked.images;
  kept = looked.kept;
  time = looked.since.moments;
  past = looked.since.past;
}
