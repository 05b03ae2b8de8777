-- A machine whose registers are set.
use Rattle.std.proofs.Common.{◌≡◌, ◌∙◌, refl}
use Rattle.sm83_alu.specs.declared.register_file.Registers.{Registers}
use Rattle.memory_map.specs.State.{BusState}
use Rattle.machine.specs.Machine.{MachineState}
use Rattle.machine.specs.MachineStores.{restored, without_memory}
use Rattle.machine.specs.declared.machine_without_memory.MachineWithoutMemory.{MachineWithoutMemory}
use Rattle.snapshot.proofs.Machines.{five_back}
use Rattle.debugging.specs.declared.registers.RegisterValue.{RegisterValue}
use Rattle.debugging.specs.Setting.{register_set, with_register}

-- all else that is put back is as it was
pub only_registers : (m : MachineState) (r : Registers) → restored (record (without_memory m) { registers = r }) m ≡ record m { processor = record m.processor { registers = r } }
only_registers m r =
    let b : BusState = m.processor.memory in
    let five = five_back b.picture.vblank b.picture.stat b.timer.requested b.serial.requested b.control.joypad in
    rw (five.0, five.1, five.2, five.3, five.4) refl

pub registers_put_back : (value : RegisterValue) (m inside new : MachineState) (s : MachineWithoutMemory) (r : Registers) → inside ≡ m → s ≡ without_memory inside
    → r ≡ with_register value s.registers → new ≡ restored (record s { registers = r }) inside → new ≡ register_set value m
registers_put_back value m inside new s r same state set is = is ∙ rw (set, state, same) (only_registers m (with_register value m.processor.registers))
