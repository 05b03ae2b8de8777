-- What a snapshot holds of the bus: the fields of its units, and its stores of bytes.
use Rattle.std.specs.Prelude.{◌≡◌, ℕ, ◌<◌, List, length}
use Rattle.timer_unit.specs.Timer.{IsLegalTimer}
use Rattle.timer_unit.specs.Serial.{IsLegalSerial}
use Rattle.picture_unit.specs.Picture.{IsLegalPicture}
use Rattle.bank_controllers.specs.State.{IsLegalBanks}
use Rattle.bank_controllers.specs.CartridgeState.{CartridgeState, IsLegalRam}
use Rattle.memory_map.specs.declared.bus_without_memory.BusWithoutMemory.{BusWithoutMemory}
use Rattle.memory_map.specs.declared.region.Region.{Region}
use Rattle.memory_map.specs.declared.region.Region.TheVariants.{Vram, Wram, Oam, Hram, Sound, CartRam}
use Rattle.memory_map.specs.Joypad.{select_bits}
use Rattle.memory_map.specs.State.{BusState}
use Rattle.memory_map.specs.Bus.{interrupt_flag, with_interrupt_flag, with_vram, with_oam}

abbrev pub without_memory : BusState → BusWithoutMemory
without_memory b = record {
  ie = b.control.ie;
  interrupt_flag = interrupt_flag b;
  buttons = b.control.buttons;
  p1_select = b.control.p1_select;
  timer = b.timer.timer;
  serial = b.serial.serial;
  dma = b.control.dma;
  dma_copied = b.control.dma_copied;
  picture = b.picture.picture.state;
  banks = b.banks.state;
}

abbrev pub restored : BusWithoutMemory → BusState → BusState
restored r b = with_interrupt_flag r.interrupt_flag (record b {
  timer = record b.timer { timer = r.timer };
  serial = record b.serial { serial = r.serial };
  picture = record b.picture { picture = record b.picture.picture { state = r.picture } };
  banks = record b.banks { state = r.banks };
  control = record b.control { ie = r.ie; buttons = r.buttons; p1_select = r.p1_select; dma = r.dma; dma_copied = r.dma_copied };
})

-- which fields are legal for this cartridge
pub record AreLegalFor (cartridge : CartridgeState) (r : BusWithoutMemory) : Type 0 where
  pub ie : r.ie < 256
  pub interrupt_flag : r.interrupt_flag < 32
  pub buttons : r.buttons < 256
  pub p1_select : select_bits r.p1_select ≡ r.p1_select
  pub timer : IsLegalTimer r.timer
  pub serial : IsLegalSerial r.serial
  pub dma : r.dma < 256
  pub dma_copied : r.dma_copied < 161
  pub picture : IsLegalPicture r.picture
  pub banks : IsLegalBanks cartridge.state.kind cartridge.rumble r.banks

-- the bytes of a region
abbrev pub region_of : BusState → Region → List ℕ
region_of b Vram = b.picture.picture.vram
region_of b Wram = b.wram
region_of b Oam = b.picture.picture.oam
region_of b Hram = b.hram
region_of b Sound = b.sound
region_of b CartRam = b.banks.ram

abbrev pub region_filled : Region → List ℕ → BusState → BusState
region_filled Vram bytes b = with_vram bytes b
region_filled Wram bytes b = record b { wram = bytes }
region_filled Oam bytes b = with_oam bytes b
region_filled Hram bytes b = record b { hram = bytes }
region_filled Sound bytes b = record b { sound = bytes }
region_filled CartRam bytes b = record b { banks = record b.banks { ram = bytes } }

-- bytes that a region may hold: as many as it has, and half bytes for the RAM of MBC2
abbrev pub FitsRegion : BusState → Region → List ℕ → Type 0
FitsRegion b Vram bytes = length bytes ≡ 8192
FitsRegion b Wram bytes = length bytes ≡ 8192
FitsRegion b Oam bytes = length bytes ≡ 160
FitsRegion b Hram bytes = length bytes ≡ 127
FitsRegion b Sound bytes = length bytes ≡ 48
FitsRegion b CartRam bytes = (length bytes ≡ length b.banks.ram) × IsLegalRam b.banks.state.kind bytes
