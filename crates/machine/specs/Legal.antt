-- Which machines are legal: each field and each store in its range.
use Rattle.std.specs.Prelude.{◌≡◌, ℕ, ◌<◌, List, length}
use Rattle.std.specs.List.{All}
use Rattle.bank_controllers.specs.CartridgeState.{IsLegalRam}
use Rattle.memory_map.specs.State.{BusState}
use Rattle.machine.specs.Machine.{MachineState}
use Rattle.machine.specs.MachineStores.{AreLegalFor, without_memory}

-- 160 shades from 0 to 3
pub record IsRow (row : List ℕ) : Type 0 where
  pub columns : length row ≡ 160
  pub shades : All (λ shade. shade < 4) row

-- each store with its length, 144 rows, and half bytes for the RAM of MBC2
pub record AreLegalStores (b : BusState) : Type 0 where
  pub vram : length b.picture.picture.vram ≡ 8192
  pub wram : length b.wram ≡ 8192
  pub oam : length b.picture.picture.oam ≡ 160
  pub hram : length b.hram ≡ 127
  pub sound : length b.sound ≡ 48
  pub rows : length b.picture.picture.rows ≡ 144
  pub row : All IsRow b.picture.picture.rows
  pub ram : IsLegalRam b.banks.state.kind b.banks.ram

-- each field and each store in its range, for the machine's own cartridge
pub record IsLegalMachine (m : MachineState) : Type 0 where
  pub registers : AreLegalFor m.processor.memory.banks (without_memory m)
  pub stores : AreLegalStores m.processor.memory
