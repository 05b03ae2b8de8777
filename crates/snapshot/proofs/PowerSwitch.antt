-- Machines with another RAM and other clocks, and the power switch: what they are, and that they are legal.
use Rattle.std.proofs.Common.{◌≡◌, ◌∙◌, ℕ, true, false, List, length, refl, sym, subst}
use Rattle.cartridge.specs.Accepted.{IsAccepted}
use Rattle.cartridge.specs.Header.{has_battery, ram_length_of}
use Rattle.bank_controllers.specs.declared.clock.ClockRegisters.{ClockRegisters}
use Rattle.bank_controllers.specs.State.{IsClockOf}
use Rattle.bank_controllers.specs.CartridgeState.{CartridgeState, IsLegalRam, IsSameCartridge, cartridge_at_power_on}
use Rattle.memory_map.specs.State.{BusState}
use Rattle.machine.specs.declared.machine_without_memory.MachineWithoutMemory.{MachineWithoutMemory}
use Rattle.machine.specs.Machine.{MachineState, powered, start, with_clocks, with_ram}
use Rattle.machine.specs.MachineStores.{without_memory, restored, AreLegalFor}
use Rattle.snapshot.specs.Legal.{IsMachineOf}
use Rattle.snapshot.proofs.Machines.{five_back}
use Rattle.snapshot.proofs.PowerOn.{start_machine}

-- ---- the clocks

-- fields with these clocks
abbrev pub clocked : (live latched : ClockRegisters) → MachineWithoutMemory → MachineWithoutMemory
clocked live latched r = record r { bus = record r.bus { banks = record r.bus.banks { clock = live; latched = latched } } }

pub clocks_restored : (m : MachineState) (live latched : ClockRegisters) → restored (clocked live latched (without_memory m)) m ≡ with_clocks live latched m
clocks_restored m live latched =
    let b : BusState = m.processor.memory in
    let five = five_back b.picture.vblank b.picture.stat b.timer.requested b.serial.requested b.control.joypad in
    rw (five.0, five.1, five.2, five.3, five.4) refl

pub clocked_legal :
    (banks : CartridgeState) (r : MachineWithoutMemory) (live latched : ClockRegisters)
    → IsClockOf banks.state.kind live → IsClockOf banks.state.kind latched → AreLegalFor banks r → AreLegalFor banks (clocked live latched r)
clocked_legal banks r live latched live_legal latched_legal legal = record {
  overrun = legal.overrun;
  bus = record {
    ie = legal.bus.ie;
    interrupt_flag = legal.bus.interrupt_flag;
    buttons = legal.bus.buttons;
    p1_select = legal.bus.p1_select;
    timer = legal.bus.timer;
    serial = legal.bus.serial;
    dma = legal.bus.dma;
    dma_copied = legal.bus.dma_copied;
    picture = legal.bus.picture;
    banks = record {
      kind = legal.bus.banks.kind;
      enable = legal.bus.banks.enable;
      first = legal.bus.banks.first;
      last = legal.bus.banks.last;
      ram_bank = legal.bus.banks.ram_bank;
      mode = legal.bus.banks.mode;
      clock = live_legal;
      latched = latched_legal;
    };
  };
}

-- ---- the machines are machines of the cartridge

pub with_ram_machine : (rom ram : List ℕ) (m : MachineState) → IsLegalRam m.processor.memory.banks.state.kind ram → length ram ≡ ram_length_of rom → IsMachineOf rom m → IsMachineOf rom (with_ram ram m)
with_ram_machine rom ram m legal_ram size of = record {
  legal = record {
    registers = record {
      overrun = of.legal.registers.overrun;
      bus = record {
        ie = of.legal.registers.bus.ie;
        interrupt_flag = of.legal.registers.bus.interrupt_flag;
        buttons = of.legal.registers.bus.buttons;
        p1_select = of.legal.registers.bus.p1_select;
        timer = of.legal.registers.bus.timer;
        serial = of.legal.registers.bus.serial;
        dma = of.legal.registers.bus.dma;
        dma_copied = of.legal.registers.bus.dma_copied;
        picture = of.legal.registers.bus.picture;
        banks = of.legal.registers.bus.banks;
      };
    };
    stores = record {
      vram = of.legal.stores.vram;
      wram = of.legal.stores.wram;
      oam = of.legal.stores.oam;
      hram = of.legal.stores.hram;
      sound = of.legal.stores.sound;
      rows = of.legal.stores.rows;
      row = of.legal.stores.row;
      ram = legal_ram;
    };
  };
  rom = of.rom;
  kind = of.kind;
  rumble = of.rumble;
  ram_length = size;
}

pub with_clocks_machine :
    (rom : List ℕ) (m : MachineState) (live latched : ClockRegisters)
    → IsClockOf m.processor.memory.banks.state.kind live → IsClockOf m.processor.memory.banks.state.kind latched → IsMachineOf rom m → IsMachineOf rom (with_clocks live latched m)
with_clocks_machine rom m live latched live_legal latched_legal of =
    let registers = clocked_legal m.processor.memory.banks (without_memory m) live latched live_legal latched_legal of.legal.registers in record {
      legal = record {
        registers = record {
          overrun = registers.overrun;
          bus = record {
            ie = registers.bus.ie;
            interrupt_flag = registers.bus.interrupt_flag;
            buttons = registers.bus.buttons;
            p1_select = registers.bus.p1_select;
            timer = registers.bus.timer;
            serial = registers.bus.serial;
            dma = registers.bus.dma;
            dma_copied = registers.bus.dma_copied;
            picture = registers.bus.picture;
            banks = registers.bus.banks;
          };
        };
        stores = record {
          vram = of.legal.stores.vram;
          wram = of.legal.stores.wram;
          oam = of.legal.stores.oam;
          hram = of.legal.stores.hram;
          sound = of.legal.stores.sound;
          rows = of.legal.stores.rows;
          row = of.legal.stores.row;
          ram = of.legal.stores.ram;
        };
      };
      rom = of.rom;
      kind = of.kind;
      rumble = of.rumble;
      ram_length = of.ram_length;
    }

-- ---- the power switch

rom_at_power_on : (rom : List ℕ) → (start rom).processor.memory.banks.rom ≡ rom
unfolding cartridge_at_power_on
rom_at_power_on rom = refl

pub rom_kept : (rom : List ℕ) (m : MachineState) → IsSameCartridge m.processor.memory.banks (start rom).processor.memory.banks → m.processor.memory.banks.rom ≡ rom
rom_kept rom m same = sym same.rom ∙ rom_at_power_on rom

pub powered_bare : (m : MachineState) (rom : List ℕ) → m.processor.memory.banks.rom ≡ rom → has_battery rom ≡ false → powered m ≡ start rom
unfolding powered
powered_bare m rom is none = rw (is, none) refl

pub powered_kept : (m : MachineState) (rom : List ℕ) → m.processor.memory.banks.rom ≡ rom → has_battery rom ≡ true
    → powered m ≡ with_clocks m.processor.memory.banks.state.clock m.processor.memory.banks.state.latched (with_ram m.processor.memory.banks.ram (start rom))
unfolding powered
powered_kept m rom is has = rw (is, has) refl

pub powered_machine :
    (rom : List ℕ) (m : MachineState) → IsAccepted rom → IsSameCartridge m.processor.memory.banks (start rom).processor.memory.banks
    → IsLegalRam m.processor.memory.banks.state.kind m.processor.memory.banks.ram
    → IsClockOf m.processor.memory.banks.state.kind m.processor.memory.banks.state.clock → IsClockOf m.processor.memory.banks.state.kind m.processor.memory.banks.state.latched
    → IsMachineOf rom (with_clocks m.processor.memory.banks.state.clock m.processor.memory.banks.state.latched (with_ram m.processor.memory.banks.ram (start rom)))
powered_machine rom m accepted same ram live latched =
    let banks : CartridgeState = m.processor.memory.banks in
    let of = start_machine rom accepted in
    with_clocks_machine rom (with_ram banks.ram (start rom)) banks.state.clock banks.state.latched
    (subst (λ k. IsClockOf k banks.state.clock) (sym same.kind) live) (subst (λ k. IsClockOf k banks.state.latched) (sym same.kind) latched)
    (with_ram_machine rom banks.ram (start rom) (subst (λ k. IsLegalRam k banks.ram) (sym same.kind) ram) (sym same.ram_length ∙ of.ram_length) of)
