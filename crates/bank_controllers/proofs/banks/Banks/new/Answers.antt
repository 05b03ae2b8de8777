use Rattle.std.proofs.Common.{◌≡◌, ◌∙◌, refl}
use Rattle.bank_controllers.specs.CartridgeState.{cartridge_at_power_on}
use Rattle.bank_controllers.proofs.Legal.{accepted_whole, ram_at_power_on}
use Rattle.bank_controllers.proofs.banks.Banks.new.Goals as goal

pub at_power_on-requires : goal.at_power_on-requires
at_power_on-requires c =
    let rom : c.in_ok-rom.rom.items ≡ c.args.cartridge.now = c.in_ok-rom.ensures ∙ c.rom.ensures.image in record {
      rom = rw rom (accepted_whole c.args.cartridge.now c.rom.ensures.accepted);
      least = rw rom c.rom.ensures.least;
      ram = rw (c.in_ok-ram.ensures, c.ram_length.ensures.header) (ram_at_power_on c.args.cartridge.now c.controller-controller.result c.controller-controller.ensures);
    }

pub returns : goal.returns
unfolding cartridge_at_power_on
returns c =
    let rom : c.in_ok-rom.rom.items ≡ c.args.cartridge.now = c.in_ok-rom.ensures ∙ c.rom.ensures.image in
    rw (c.at_power_on.ensures, rom, c.in_ok-ram.ensures, c.ram_length.ensures.header, c.has_rumble.ensures, c.controller-controller.ensures) refl
