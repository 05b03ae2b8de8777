-- What a snapshot holds of the machine beside its stores of bytes and the rows of the picture.
use Rattle.std.specs.Prelude.{ℕ, ◌<◌, List, slice_set}
use Rattle.bank_controllers.specs.CartridgeState.{CartridgeState}
use Rattle.memory_map.specs.Stores as bus
use Rattle.memory_map.specs.State.{BusState}
use Rattle.picture_unit.specs.Picture.{PictureUnit}
use Rattle.machine.specs.declared.machine_without_memory.MachineWithoutMemory.{MachineWithoutMemory}
use Rattle.machine.specs.Machine.{MachineState}

abbrev pub without_memory : MachineState → MachineWithoutMemory
without_memory m = record {
  registers = m.processor.registers;
  state = m.processor.state;
  overrun = m.overrun;
  bus = bus.without_memory m.processor.memory;
}

abbrev pub restored : MachineWithoutMemory → MachineState → MachineState
restored r m = record {
  processor = record { registers = r.registers; state = r.state; memory = bus.restored r.bus m.processor.memory };
  overrun = r.overrun;
}

-- which fields are legal for this cartridge
pub record AreLegalFor (cartridge : CartridgeState) (r : MachineWithoutMemory) : Type 0 where
  pub overrun : r.overrun < 6
  pub bus : bus.AreLegalFor cartridge r.bus

-- row y of the picture becomes this row
abbrev pub row_set : (y : ℕ) → List ℕ → MachineState → MachineState
row_set y row m =
    let memory : BusState = m.processor.memory in
    let picture : PictureUnit = memory.picture.picture in
    record m {
      processor = record m.processor {
        memory = record memory { picture = record memory.picture { picture = record picture { rows = slice_set picture.rows y row } } };
      };
    }
