use Rattle.std.proofs.Common.{◌≡◌, ◌∙◌, true, ◌++◌, sym, ap}
use Rattle.bank_controllers.specs.State.{has_clock as has_clock_of}
use Rattle.machine.specs.declared.machine_without_memory.MachineWithoutMemory.{MachineWithoutMemory}
use Rattle.machine.specs.MachineStores.{without_memory}
use Rattle.session.proofs.Beginnings.{if_ok}
use Rattle.battery_files.specs.Battery.{clock_bytes}
use Rattle.battery_files.proofs.Files.{with_clock}
use Rattle.battery_files.proofs.battery.battery_of.Goals as goal

pub returns-then-is_clocked : goal.returns-then-is_clocked
returns-then-is_clocked c =
    let m = c.args.machine.now in
    let state : c.state.result ≡ without_memory m = c.state.ensures.state in
    let ram : c.in_ok-ram.ram.items ≡ m.processor.memory.banks.ram = c.in_ok-ram.ensures in
    let on : has_clock_of m.processor.memory.banks.state.kind ≡ true =
    ap (λ (r : MachineWithoutMemory). has_clock_of r.bus.banks.kind) (sym state) ∙ sym c.is_clocked.ensures ∙ c.if-is_clocked.true in
    if_ok c.with_clock.result c.with_clock.ensures (λ file is.
    is ∙ (λ i. ram i ++ clock_bytes (state i).bus.banks.clock (state i).bus.banks.latched) ∙ sym (with_clock m on))
