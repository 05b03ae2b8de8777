-- The machine at power-on, and the machine of a legal snapshot, of an accepted image.
use Rattle.std.proofs.Common.{◌≡◌, ℕ, List, replicate, Option, Some, None, ◌<◌, refl, sym, subst, arith}
use Rattle.std.specs.Prelude.{IsSome}
use Rattle.std.proofs.lemmas.List.{length-replicate}
use Rattle.std.proofs.lemmas.List.Elements.{All-replicate}
use Rattle.cartridge.specs.Header.{controller_of, has_rumble, ram_length_of}
use Rattle.cartridge.specs.declared.controller.Controller.{Controller}
use Rattle.bank_controllers.specs.CartridgeState.{IsLegalRam, cartridge_at_power_on}
use Rattle.bank_controllers.proofs.Legal.{ram_at_power_on, power_on-legal}
use Rattle.picture_unit.specs.Picture.{blank_rows, picture_at_power_on, state_at_power_on}
use Rattle.memory_map.specs.State.{zeros}
use Rattle.machine.specs.Machine.{start}
use Rattle.machine.specs.MachineStores.{AreLegalFor, without_memory}
use Rattle.snapshot.specs.Table.{kind_of_image}
use Rattle.machine.specs.Legal.{IsRow}
use Rattle.snapshot.specs.Laws.{ALegalSnapshotIsAMachine, TheStartIsAMachine}
use Rattle.snapshot.proofs.Decoding.{made_legal}
use Rattle.snapshot.proofs.Machines.{encoded_again}
use Rattle.snapshot.proofs.Offsets.{kind_is}

known : (o : Option Controller) → IsSome o → (k : Controller) × (o ≡ Some k)
known None some = absurd (cc)
known (Some k) some = (k, refl)

blank_row : IsRow (replicate 160 0)
blank_row = record { columns = length-replicate {A = ℕ} 160 0; shades = All-replicate (λ (v : ℕ). v < 4) 160 0 (omega arith) }

start_registers : (image : List ℕ) → AreLegalFor (start image).processor.memory.banks (without_memory (start image))
unfolding cartridge_at_power_on picture_at_power_on state_at_power_on
start_registers image = record {
  overrun = omega arith;
  bus = record {
    ie = omega arith;
    interrupt_flag = omega arith;
    buttons = omega arith;
    p1_select = refl;
    timer = record { counter = omega arith; tima = omega arith; tma = omega arith; tac = omega arith };
    serial = record { sb = omega arith; sc = refl; cycles_left = omega arith };
    dma = omega arith;
    dma_copied = omega arith;
    picture = record {
      lcdc = omega arith;
      stat = refl;
      scy = omega arith;
      scx = omega arith;
      lyc = omega arith;
      bgp = omega arith;
      obp0 = omega arith;
      obp1 = omega arith;
      wy = omega arith;
      wx = omega arith;
      ly = omega arith;
      m_cycle = omega arith;
      window_counter = omega arith;
    };
    banks = power_on-legal (kind_of_image image) (has_rumble image);
  };
}

pub start_machine : TheStartIsAMachine
unfolding cartridge_at_power_on picture_at_power_on blank_rows zeros
start_machine image accepted =
    let kind = known (controller_of image) accepted.kind in
    let ram : IsLegalRam (kind_of_image image) (replicate (ram_length_of image) 0) =
    subst (λ (k : Controller). IsLegalRam k (replicate (ram_length_of image) 0)) (sym (kind_is image kind.0 kind.1)) (ram_at_power_on image kind.0 kind.1) in
    record {
      legal = record {
        registers = start_registers image;
        stores = record {
          vram = length-replicate {A = ℕ} 8192 0;
          wram = length-replicate {A = ℕ} 8192 0;
          oam = length-replicate {A = ℕ} 160 0;
          hram = length-replicate {A = ℕ} 127 0;
          sound = length-replicate {A = ℕ} 48 0;
          rows = length-replicate {A = List ℕ} 144 (replicate 160 0);
          row = All-replicate IsRow 144 (replicate 160 0) blank_row;
          ram = ram;
        };
      };
      rom = refl;
      kind = refl;
      rumble = refl;
      ram_length = length-replicate {A = ℕ} (ram_length_of image) 0;
    }

pub legal_snapshot : ALegalSnapshotIsAMachine
legal_snapshot image bytes accepted legal fit =
    let kind = known (controller_of image) accepted.kind in
    (made_legal image bytes kind.0 fit legal kind.1, encoded_again image bytes fit legal)
