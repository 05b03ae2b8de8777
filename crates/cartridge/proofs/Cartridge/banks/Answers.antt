use Rattle.cartridge.proofs.Accepted.{bank_count}
use Rattle.cartridge.proofs.Cartridge.banks.Goals as goal

pub returns-clause-power : goal.returns-clause-power
returns-clause-power c = rw c.rom.ensures.image (bank_count c.args.self.now c.rom.ensures.accepted)
