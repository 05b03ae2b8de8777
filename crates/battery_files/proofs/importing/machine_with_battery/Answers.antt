use Rattle.std.proofs.Common.{◌≡◌, ◌∙◌, ◌+◌, ◌<◌, ◌≤◌, length, sym, ap, subst, arith}
use Rattle.cartridge.specs.Header.{ram_length_of}
use Rattle.bank_controllers.specs.State.{has_clock as has_clock_of}
use Rattle.machine.specs.Machine.{MachineState, with_clocks}
use Rattle.snapshot.specs.Legal.{IsMachineOf}
use Rattle.battery_files.specs.Battery.{has_clock}
use Rattle.battery_files.specs.Importing.{clock_in, start_with_ram}
use Rattle.battery_files.proofs.Files.{file_of_ram, file_with_clocks, more_is_clock, taken_size}
use Rattle.snapshot.proofs.PowerSwitch.{with_clocks_machine}
use Rattle.battery_files.proofs.Machines.{start_with_ram_machine, clock_of}
use Rattle.battery_files.proofs.importing.machine_with_battery.Goals as goal

pub returns-then-battery-ram-clause-machine : goal.returns-then-battery-ram-clause-machine
returns-then-battery-ram-clause-machine c =
    let few : length c.args.battery.now ≤ ram_length_of c.args.cartridge.now = omega (arith, c.if-battery-ram.true, c.ram_length-ram.ensures.header) in
    c.in-Ok.ensures.machine ∙ sym (file_of_ram c.args.cartridge.now c.args.battery.now few)

pub returns-then-battery-ram-clause-of : goal.returns-then-battery-ram-clause-of
returns-then-battery-ram-clause-of c =
    let rom = c.args.cartridge.now in
    let battery = c.args.battery.now in
    let enough = taken_size (has_clock rom) (ram_length_of rom) (length battery) c.in_default.ensures.none.1 in
    subst (λ (m : MachineState). IsMachineOf rom m) (sym c.in-Ok.ensures.machine) (start_with_ram_machine rom battery c.in_default.ensures.accepted enough)

pub clock_in-live-requires : goal.clock_in-live-requires
clock_in-live-requires c =
    let rom = c.args.cartridge.now in
    let more : ram_length_of rom < length c.args.battery.now = omega (arith, c.if-battery-ram.false, c.ram_length-ram.ensures.header) in
    let clock = more_is_clock (has_clock rom) (ram_length_of rom) (length c.args.battery.now) c.in_default.ensures.none.1 more in
    omega (arith, clock.1, c.ram_length-ram.ensures.header)

pub clock_in-latched-requires : goal.clock_in-latched-requires
clock_in-latched-requires c =
    let rom = c.args.cartridge.now in
    let more : ram_length_of rom < length c.args.battery.now = omega (arith, c.if-battery-ram.false, c.ram_length-ram.ensures.header) in
    let clock = more_is_clock (has_clock rom) (ram_length_of rom) (length c.args.battery.now) c.in_default.ensures.none.1 more in
    omega (arith, clock.1, c.ram_length-ram.ensures.header)

pub set_clocks-requires-clause-live : goal.set_clocks-requires-clause-live
set_clocks-requires-clause-live c =
    let rom = c.args.cartridge.now in
    let battery = c.args.battery.now in
    let more : ram_length_of rom < length battery = omega (arith, c.if-battery-ram.false, c.ram_length-ram.ensures.header) in
    let clock = more_is_clock (has_clock rom) (ram_length_of rom) (length battery) c.in_default.ensures.none.1 more in
    let enough = taken_size (has_clock rom) (ram_length_of rom) (length battery) c.in_default.ensures.none.1 in
    let of = start_with_ram_machine rom battery c.in_default.ensures.accepted enough in
    clock_of c.in-Ok.machine.processor.memory.banks.state.kind c.clock_in-live.result
    (ap (λ (m : MachineState). has_clock_of m.processor.memory.banks.state.kind) c.in-Ok.ensures.machine ∙ ap has_clock_of of.kind ∙ clock.0) c.clock_in-live.ensures.legal

pub set_clocks-requires-clause-latched : goal.set_clocks-requires-clause-latched
set_clocks-requires-clause-latched c =
    let rom = c.args.cartridge.now in
    let battery = c.args.battery.now in
    let more : ram_length_of rom < length battery = omega (arith, c.if-battery-ram.false, c.ram_length-ram.ensures.header) in
    let clock = more_is_clock (has_clock rom) (ram_length_of rom) (length battery) c.in_default.ensures.none.1 more in
    let enough = taken_size (has_clock rom) (ram_length_of rom) (length battery) c.in_default.ensures.none.1 in
    let of = start_with_ram_machine rom battery c.in_default.ensures.accepted enough in
    clock_of c.in-Ok.machine.processor.memory.banks.state.kind c.clock_in-latched.result
    (ap (λ (m : MachineState). has_clock_of m.processor.memory.banks.state.kind) c.in-Ok.ensures.machine ∙ ap has_clock_of of.kind ∙ clock.0) c.clock_in-latched.ensures.legal

pub returns-clause-machine : goal.returns-clause-machine
returns-clause-machine c =
    let rom = c.args.cartridge.now in
    let battery = c.args.battery.now in
    let more : ram_length_of rom < length battery = omega (arith, c.if-battery-ram.false, c.ram_length-ram.ensures.header) in
    let live : c.clock_in-live.result ≡ clock_in battery (ram_length_of rom) = c.clock_in-live.ensures.clock ∙ ap (clock_in battery) c.ram_length-ram.ensures.header in
    let latched : c.clock_in-latched.result ≡ clock_in battery (ram_length_of rom + 20) = c.clock_in-latched.ensures.clock ∙ ap (λ n. clock_in battery (n + 20)) c.ram_length-ram.ensures.header in
    let begun : c.in-Ok.machine ≡ start_with_ram rom battery = c.in-Ok.ensures.machine in
    c.set_clocks.ensures ∙ (λ i. with_clocks (live i) (latched i) (begun i)) ∙ sym (file_with_clocks rom battery more)

pub returns-clause-of : goal.returns-clause-of
returns-clause-of c =
    let rom = c.args.cartridge.now in
    let battery = c.args.battery.now in
    let more : ram_length_of rom < length battery = omega (arith, c.if-battery-ram.false, c.ram_length-ram.ensures.header) in
    let clock = more_is_clock (has_clock rom) (ram_length_of rom) (length battery) c.in_default.ensures.none.1 more in
    let enough = taken_size (has_clock rom) (ram_length_of rom) (length battery) c.in_default.ensures.none.1 in
    let of = subst (λ (m : MachineState). IsMachineOf rom m) (sym c.in-Ok.ensures.machine) (start_with_ram_machine rom battery c.in_default.ensures.accepted enough) in
    let kind = ap has_clock_of of.kind ∙ clock.0 in
    subst (λ (m : MachineState). IsMachineOf rom m) (sym c.set_clocks.ensures)
    (with_clocks_machine rom c.in-Ok.machine c.clock_in-live.result c.clock_in-latched.result
    (clock_of c.in-Ok.machine.processor.memory.banks.state.kind c.clock_in-live.result kind c.clock_in-live.ensures.legal)
    (clock_of c.in-Ok.machine.processor.memory.banks.state.kind c.clock_in-latched.result kind c.clock_in-latched.ensures.legal) of)
