use Rattle.std.proofs.Common.{[], subst}
use Rattle.machine.specs.Machine.{MachineState}
use Rattle.sector_device.specs.FileDevice.{file_disk}
use Rattle.session.specs.Accessors.{device_of}
use Rattle.session.specs.Stands.{IsAtRest}
use Rattle.gbkeep.proofs.batteries.begin_import.Goals as goal

pub returns-in-Ok-new_game_from-clause-begun : goal.returns-in-Ok-new_game_from-clause-begun
returns-in-Ok-new_game_from-clause-begun c = λ honest. record {
  battery = c.in-Ok.ensures.taken.0;
  taken = c.in-Ok.ensures.taken.1;
  count = c.in-Ok-new_game_from.ensures.answered.count;
  rests = subst (λ (m : MachineState). IsAtRest c.args.cartridge.now (file_disk (device_of c.in-Ok-new_game_from.session)) 0 [] m) c.in-Ok.ensures.machine (c.in-Ok-new_game_from.ensures.rests honest);
}
