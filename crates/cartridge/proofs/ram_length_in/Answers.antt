use Rattle.cartridge.proofs.Accepted.{ram_listed}
use Rattle.cartridge.proofs.ram_length_in.Goals as goal

pub returns-clause-listed : goal.returns-clause-listed
returns-clause-listed c = rw (c.unwrap_or.ensures, c.ram_length.ensures) (ram_listed c.controller_in.result _)
