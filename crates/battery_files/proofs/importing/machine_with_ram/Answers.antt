use Rattle.std.proofs.Common.{◌≡◌, ◌∙◌, ap}
use Rattle.cartridge.specs.Header.{ram_length_of}
use Rattle.battery_files.specs.Importing.{ram_in}
use Rattle.battery_files.proofs.Machines.{start_fits}
use Rattle.battery_files.proofs.importing.machine_with_ram.Goals as goal

pub fill-requires : goal.fill-requires
fill-requires c =
    let rom = c.args.cartridge.now in
    let is : c.deref.result.now ≡ ram_in c.controller.result (ram_length_of rom) c.args.battery.now =
    c.deref.ensures.value ∙ c.in_ok-ram.ensures ∙ ap (λ n. ram_in c.controller.result n c.args.battery.now) c.ram_length.ensures.header in
    rw c.in_ok-machine.ensures (start_fits rom c.args.battery.now c.deref.result.now c.controller.result c.controller.ensures c.requires is)
