use Rattle.std.proofs.Common.{◌≡◌, ◌∙◌, true, false, sym, ap, subst}
use Rattle.cartridge.specs.Header.{has_battery}
use Rattle.bank_controllers.specs.CartridgeState.{CartridgeState, IsLegalRam}
use Rattle.bank_controllers.specs.State.{IsClockOf}
use Rattle.machine.specs.Machine.{MachineState, start, with_clocks, with_ram}
use Rattle.snapshot.specs.Legal.{IsMachineOf}
use Rattle.snapshot.proofs.PowerOn.{start_machine}
use Rattle.snapshot.proofs.PowerSwitch.{powered_bare, powered_kept, powered_machine, rom_kept}
use Rattle.snapshot.proofs.power.powered.Goals as goal

pub returns-then-not-has_battery-clause-machine : goal.returns-then-not-has_battery-clause-machine
returns-then-not-has_battery-clause-machine c =
    let rom = c.args.cartridge.now in
    let none : has_battery rom ≡ false = sym c.has_battery.ensures ∙ c.if-not-has_battery.true in
    c.in_ok-fresh.ensures ∙ sym (powered_bare c.args.machine.now rom (rom_kept rom c.args.machine.now c.requires) none)

pub returns-then-not-has_battery-clause-of : goal.returns-then-not-has_battery-clause-of
returns-then-not-has_battery-clause-of c =
    subst (λ (m : MachineState). IsMachineOf c.args.cartridge.now m) (sym c.in_ok-fresh.ensures) (start_machine c.args.cartridge.now c.rom.ensures.accepted)

pub returns-clause-machine : goal.returns-clause-machine
returns-clause-machine c =
    let rom = c.args.cartridge.now in
    let m = c.args.machine.now in
    let has : has_battery rom ≡ true = sym c.has_battery.ensures ∙ c.if-not-has_battery.false in
    let live = ap (λ r. r.bus.banks.clock) c.state.ensures.state in
    let latched = ap (λ r. r.bus.banks.latched) c.state.ensures.state in
    let filled : c.fill.new.self ≡ with_ram m.processor.memory.banks.ram (start rom) = c.fill.ensures ∙ (λ i. with_ram (c.region.ensures.bytes i) (c.in_ok-fresh.ensures i)) in
    c.set_clocks.ensures ∙ (λ i. with_clocks (live i) (latched i) (filled i)) ∙ sym (powered_kept m rom (rom_kept rom m c.requires) has)

pub returns-clause-of : goal.returns-clause-of
returns-clause-of c =
    let rom = c.args.cartridge.now in
    let m = c.args.machine.now in
    let banks : CartridgeState = m.processor.memory.banks in
    let live = ap (λ r. r.bus.banks.clock) c.state.ensures.state in
    let latched = ap (λ r. r.bus.banks.latched) c.state.ensures.state in
    let filled : c.fill.new.self ≡ with_ram banks.ram (start rom) = c.fill.ensures ∙ (λ i. with_ram (c.region.ensures.bytes i) (c.in_ok-fresh.ensures i)) in
    let is : c.set_clocks.new.machine ≡ with_clocks banks.state.clock banks.state.latched (with_ram banks.ram (start rom)) = c.set_clocks.ensures ∙ (λ i. with_clocks (live i) (latched i) (filled i)) in
    let legal = c.state.ensures.legal.bus.banks in
    subst (λ (n : MachineState). IsMachineOf rom n) (sym is)
    (powered_machine rom m c.rom.ensures.accepted c.requires
    (subst (λ ram. IsLegalRam banks.state.kind ram) c.region.ensures.bytes c.region.ensures.fit.1)
    (subst (λ clock. IsClockOf banks.state.kind clock) live legal.clock) (subst (λ clock. IsClockOf banks.state.kind clock) latched legal.latched))
