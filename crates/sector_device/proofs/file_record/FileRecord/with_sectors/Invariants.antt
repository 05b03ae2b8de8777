use Rattle.std.proofs.Common.{◌≡◌, take}
use Rattle.sector_device.specs.FileRecord.{unasked}
use Rattle.sector_device.proofs.file_record.FileRecord.with_sectors.Given as goal

abbrev pub invariant-loop-sector : goal.invariant-loop-sector
invariant-loop-sector l = l.self ≡ record (unasked l.initial.self.held) { found = take l.sector-index l.sectors }
