-- A cartridge in the machine: its ROM and RAM, the registers of its controller, and what reads, writes and seconds do.
use Rattle.std.specs.Prelude.{◌≡◌, ℕ, ◌+◌, ◌-◌, ◌*◌, ◌/◌, ◌%◌, ◌<◌, ◌≤◌, Bool, ◌&&◌, List, length, replicate, slice_index, slice_set, nat_lt, nat_le, if◌then◌else◌}
use Rattle.std.specs.Option.{unwrap_or}
use Rattle.std.specs.List.{All}
use Rattle.cartridge.specs.Header.{controller_of, has_rumble, ram_length_of}
use Rattle.cartridge.specs.declared.controller.Controller.{Controller}
use Rattle.cartridge.specs.declared.controller.Controller.TheVariants.{NoMbc, Mbc1, Mbc2, Mbc3, Mbc3Clock, Mbc5}
use Rattle.bank_controllers.specs.declared.clock.ClockRegister.{ClockRegister}
use Rattle.bank_controllers.specs.declared.state.BanksState.{BanksState}
use Rattle.bank_controllers.specs.Clock.{clock_second, register_of, with_register}
use Rattle.bank_controllers.specs.Places.{Place, Rom, Ram, HalfByte, Register, Nowhere, low_start, high_start, in_ram}
use Rattle.bank_controllers.specs.State.{IsLegalBanks, has_clock, state_at_power_on}
use Rattle.bank_controllers.specs.Writes.{register_written}

-- `rumble` is whether an MBC5 has a motor
pub record CartridgeState : Type 0 where
  pub rom : List ℕ
  pub ram : List ℕ
  pub rumble : Bool
  pub state : BanksState

-- ---- the place of an address

unfoldable pub place_of : CartridgeState → ℕ → Place
place_of b address =
    if nat_lt address 0x4000 then Rom (low_start (length b.rom) b.state + address) else
    (if nat_lt address 0x8000 then Rom (high_start (length b.rom) b.state + (address - 0x4000)) else
    (if nat_le 0xA000 address && nat_lt address 0xC000
    then in_ram (length b.ram) b.state (address - 0xA000)
    else Nowhere))

-- ---- reads and writes

-- MBC2 drives four bits, and the upper ones read 1; reads of the clock give the latched registers (fixed profile)
abbrev pub value_at : CartridgeState → Place → ℕ
value_at b (Rom offset) = slice_index b.rom offset
value_at b (Ram offset) = slice_index b.ram offset
value_at b (HalfByte offset) = 240 + slice_index b.ram offset
value_at b (Register register) = register_of register b.state.latched
value_at b Nowhere = 0xFF

unfoldable pub read_at : CartridgeState → ℕ → ℕ
read_at b address = value_at b (place_of b address)

-- a write to the clock sets the live and the latched register (fixed profile)
abbrev pub clock_written : ClockRegister → ℕ → BanksState → BanksState
clock_written register value s = record s {
  clock = with_register register value s.clock;
  latched = with_register register value s.latched;
}

abbrev pub stored_at : Place → ℕ → CartridgeState → CartridgeState
stored_at (Rom offset) value b = b
stored_at (Ram offset) value b = record b { ram = slice_set b.ram offset value }
stored_at (HalfByte offset) value b = record b { ram = slice_set b.ram offset (value % 16) }
stored_at (Register register) value b = record b { state = clock_written register value b.state }
stored_at Nowhere value b = b

-- below 8000 a write goes to the registers
unfoldable pub written : ℕ → ℕ → CartridgeState → CartridgeState
written address value b =
    if nat_lt address 0x8000
    then record b { state = register_written b.rumble address value b.state }
    else stored_at (place_of b address) value b

-- ---- time

-- one second of the clock, where there is one
unfoldable pub second : CartridgeState → CartridgeState
second b = if has_clock b.state.kind then record b { state = record b.state { clock = clock_second b.state.clock } } else b

-- ---- what is legal, and power-on

-- RAM comes in whole banks of 8 KiB, or is MBC2's 512 half bytes
abbrev pub IsLegalRam : Controller → List ℕ → Type 0
IsLegalRam NoMbc ram = length ram ≡ 8192 * (length ram / 8192)
IsLegalRam Mbc1 ram = length ram ≡ 8192 * (length ram / 8192)
IsLegalRam Mbc2 ram = (length ram ≡ 512) × All (λ value. value < 16) ram
IsLegalRam Mbc3 ram = length ram ≡ 8192 * (length ram / 8192)
IsLegalRam Mbc3Clock ram = length ram ≡ 8192 * (length ram / 8192)
IsLegalRam Mbc5 ram = length ram ≡ 8192 * (length ram / 8192)

-- ROM has at least two whole banks of 16 KiB
pub record IsLegalCartridge (b : CartridgeState) : Type 0 where
  pub rom : length b.rom ≡ 16384 * (length b.rom / 16384)
  pub least : 32768 ≤ length b.rom
  pub ram : IsLegalRam b.state.kind b.ram
  pub state : IsLegalBanks b.state.kind b.rumble b.state

-- the ROM, the kind, the motor and the length of the RAM are the cartridge's own: no call changes them
pub record IsSameCartridge (old new : CartridgeState) : Type 0 where
  pub rom : new.rom ≡ old.rom
  pub ram_length : length new.ram ≡ length old.ram
  pub rumble : new.rumble ≡ old.rumble
  pub kind : new.state.kind ≡ old.state.kind

-- of an accepted image, whose type is known
unfoldable pub cartridge_at_power_on : List ℕ → CartridgeState
cartridge_at_power_on image = record {
  rom = image;
  ram = replicate (ram_length_of image) 0;
  rumble = has_rumble image;
  state = state_at_power_on (unwrap_or (controller_of image) NoMbc);
}
