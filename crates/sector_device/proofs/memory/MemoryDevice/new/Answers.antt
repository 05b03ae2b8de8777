use Rattle.std.proofs.Common.{◌≡◌, replicate, refl, rules}
use Rattle.sector_device.proofs.Calls.{zero_sectors}
use Rattle.sector_device.proofs.memory.MemoryDevice.new.Goals as goal

pub holding-requires : goal.holding-requires
holding-requires c =
    let same : c.in_ok-zero_sectors.field-0.items ≡ replicate c.args.sectors (replicate 512 0) = search rules in
    rw same (zero_sectors c.args.sectors (replicate 512 0) refl)
