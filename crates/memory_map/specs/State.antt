-- All that the processor reaches by addresses, and which of its states are legal.
use Rattle.std.specs.Prelude.{◌≡◌, ℕ, ◌<◌, ◌≤◌, true, false, List, replicate}
use Rattle.timer_unit.specs.Timer as timer
use Rattle.timer_unit.specs.Serial as serial
use Rattle.picture_unit.specs.Picture as picture
use Rattle.bank_controllers.specs.CartridgeState.{CartridgeState, cartridge_at_power_on}
use Rattle.memory_map.specs.declared.control.Control.{Control}
use Rattle.memory_map.specs.Joypad.{select_bits}

-- each unit with the interrupts that it has requested, the cartridge, WRAM, HRAM, the sound bytes, and the registers that
-- belong to no unit
pub record BusState : Type 0 where
  pub timer : timer.TimerAndRequest
  pub serial : serial.SerialAndRequest
  pub picture : picture.PictureAndRequests
  pub banks : CartridgeState
  pub wram : List ℕ
  pub hram : List ℕ
  pub sound : List ℕ
  pub control : Control

pub record IsLegalControl (c : Control) : Type 0 where
  pub ie : c.ie < 256
  pub buttons : c.buttons < 256
  pub p1_select : select_bits c.p1_select ≡ c.p1_select
  pub dma : c.dma < 256
  pub dma_copied : c.dma_copied ≤ 160

-- IE 00, no buttons, both groups selected, DMA register FF and no copy running
abbrev pub control_at_power_on : Control
control_at_power_on = record { ie = 0; joypad = false; buttons = 0; p1_select = 0; dma = 0xFF; dma_copied = 160 }

-- n bytes 00
unfoldable pub zeros : ℕ → List ℕ
zeros n = replicate n 0

-- The VBlank interrupt is requested, since IF reads E1 (Pan Docs, "Power-Up Sequence"). STAT reads 86, and the sound bytes are 00
-- (fixed profile).
abbrev pub bus_at_power_on : List ℕ → BusState
bus_at_power_on image = record {
  timer = timer.unrequested timer.timer_at_power_on;
  serial = serial.unrequested serial.serial_at_power_on;
  picture = record { picture = picture.picture_at_power_on; vblank = true; stat = false };
  banks = cartridge_at_power_on image;
  wram = zeros 8192;
  hram = zeros 127;
  sound = zeros 48;
  control = control_at_power_on;
}
