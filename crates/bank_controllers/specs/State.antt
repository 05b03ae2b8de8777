-- The registers of the bank controllers, which of their values are legal, and those at power-on: Pan Docs, "MBCs" and
-- its pages on each controller.
use Rattle.std.specs.Prelude.{◌≡◌, ℕ, ◌≤◌, Bool, true, false, if◌then◌else◌}
use Rattle.cartridge.specs.declared.controller.Controller.{Controller}
use Rattle.cartridge.specs.declared.controller.Controller.TheVariants.{NoMbc, Mbc1, Mbc2, Mbc3, Mbc3Clock, Mbc5}
use Rattle.bank_controllers.specs.declared.clock.ClockRegisters.{ClockRegisters}
use Rattle.bank_controllers.specs.declared.state.BanksState.{BanksState}
use Rattle.bank_controllers.specs.Clock.{IsLegalClock, clock_at_power_on}

abbrev pub first_rom_bank : Controller → ℕ
first_rom_bank NoMbc = 0
first_rom_bank Mbc1 = 1
first_rom_bank Mbc2 = 1
first_rom_bank Mbc3 = 1
first_rom_bank Mbc3Clock = 1
first_rom_bank Mbc5 = 0

abbrev pub last_rom_bank : Controller → ℕ
last_rom_bank NoMbc = 0
last_rom_bank Mbc1 = 31
last_rom_bank Mbc2 = 15
last_rom_bank Mbc3 = 127
last_rom_bank Mbc3Clock = 127
last_rom_bank Mbc5 = 511

-- of MBC5 with a rumble motor, bit 3 is the motor's
abbrev pub last_ram_bank : Controller → Bool → ℕ
last_ram_bank NoMbc rumble = 0
last_ram_bank Mbc1 rumble = 3
last_ram_bank Mbc2 rumble = 0
last_ram_bank Mbc3 rumble = 15
last_ram_bank Mbc3Clock rumble = 15
last_ram_bank Mbc5 rumble = if rumble then 7 else 15

-- RAM without controller is always enabled (fixed profile)
abbrev pub has_ram_enable : Controller → Bool
has_ram_enable NoMbc = false
has_ram_enable Mbc1 = true
has_ram_enable Mbc2 = true
has_ram_enable Mbc3 = true
has_ram_enable Mbc3Clock = true
has_ram_enable Mbc5 = true

-- MBC1's banking mode, and whether the latch of a clock is armed
abbrev pub has_mode : Controller → Bool
has_mode NoMbc = false
has_mode Mbc1 = true
has_mode Mbc2 = false
has_mode Mbc3 = false
has_mode Mbc3Clock = true
has_mode Mbc5 = false

abbrev pub has_clock : Controller → Bool
has_clock NoMbc = false
has_clock Mbc1 = false
has_clock Mbc2 = false
has_clock Mbc3 = false
has_clock Mbc3Clock = true
has_clock Mbc5 = false

-- the registers of a clock, or zeros where there is none
abbrev pub IsClockOf : Controller → ClockRegisters → Type 0
IsClockOf kind c = (has_clock kind ≡ true → IsLegalClock c) × (has_clock kind ≡ false → c ≡ clock_at_power_on)

-- what the registers of a cartridge may hold
pub record IsLegalBanks (controller : Controller) (rumble : Bool) (s : BanksState) : Type 0 where
  pub kind : s.kind ≡ controller
  pub enable : has_ram_enable controller ≡ false → s.ram_enabled ≡ false
  pub first : first_rom_bank controller ≤ s.rom_bank
  pub last : s.rom_bank ≤ last_rom_bank controller
  pub ram_bank : s.ram_bank ≤ last_ram_bank controller rumble
  pub mode : has_mode controller ≡ false → s.mode ≡ false
  pub clock : IsClockOf controller s.clock
  pub latched : IsClockOf controller s.latched

abbrev pub rom_bank_at_power_on : Controller → ℕ
rom_bank_at_power_on NoMbc = 0
rom_bank_at_power_on Mbc1 = 1
rom_bank_at_power_on Mbc2 = 1
rom_bank_at_power_on Mbc3 = 1
rom_bank_at_power_on Mbc3Clock = 1
rom_bank_at_power_on Mbc5 = 1

-- RAM not enabled, bank 1 where there is a controller, RAM bank 0, mode 0, not armed, both clocks 0 (the values that
-- Pan Docs leaves open are fixed by this profile)
abbrev pub state_at_power_on : Controller → BanksState
state_at_power_on kind = record {
  kind = kind;
  ram_enabled = false;
  rom_bank = rom_bank_at_power_on kind;
  ram_bank = 0;
  mode = false;
  clock = clock_at_power_on;
  latched = clock_at_power_on;
}
