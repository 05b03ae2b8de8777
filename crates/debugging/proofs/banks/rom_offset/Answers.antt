use Rattle.std.proofs.Common.{arith}
use Rattle.debugging.proofs.RomPlaces.{not_rom}
use Rattle.debugging.proofs.banks.rom_offset.Goals as goal

pub returns-clause-offset : goal.returns-clause-offset
returns-clause-offset c = not_rom c.args.memory.now.banks c.args.address (omega (arith, c.if-address-lt32768.false))
