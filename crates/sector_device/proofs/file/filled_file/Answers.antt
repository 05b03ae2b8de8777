use Rattle.std.proofs.Common.{◌≡◌, replicate, refl, rules}
use Rattle.sector_device.proofs.Calls.{zero_sectors}
use Rattle.sector_device.proofs.file.filled_file.Goals as goal

pub returns-clause-sized : goal.returns-clause-sized
returns-clause-sized g c =
    let same : c.in-Ok.zero.items ≡ replicate c.args.sectors (replicate 512 0) = search rules in
    rw same (zero_sectors c.args.sectors (replicate 512 0) refl)
