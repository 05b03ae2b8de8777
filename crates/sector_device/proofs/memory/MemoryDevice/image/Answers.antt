use Rattle.std.proofs.Common.{◌≡◌, rules}
use Rattle.sector_device.specs.RecordLaws.{cut_sized}
use Rattle.sector_device.proofs.memory.MemoryDevice.image.Goals as goal

pub holding-requires : goal.holding-requires
holding-requires c =
    let self = c.args.self.now in
    let start : c.in_ok-at_start.at_start.items ≡ self.at_start.items = search rules in
    let calls : c.deref-2.result.now ≡ self.recorded.items = search rules in
    rw (c.cut_at-sectors.ensures, start, calls) (cut_sized self.at_start.items self.recorded.items c.args.kept.now self.start_sized self.recordable)
