-- The machine that begins with a battery file, and which files are taken.
use Rattle.std.specs.Prelude.{◌≡◌, ℕ, ◌+◌, ◌*◌, ◌/◌, ◌%◌, Bool, true, false, ◌==◌, ◌&&◌, ◌||◌, nat_lt, if◌then◌else◌, List, length, map, take, slice_index}
use Rattle.cartridge.specs.Header.{has_battery, ram_length_of}
use Rattle.cartridge.specs.declared.controller.Controller.{Controller}
use Rattle.cartridge.specs.declared.controller.Controller.TheVariants.{NoMbc, Mbc1, Mbc2, Mbc3, Mbc3Clock, Mbc5}
use Rattle.bank_controllers.specs.declared.clock.ClockRegisters.{ClockRegisters}
use Rattle.machine.specs.Machine.{MachineState, start, with_clocks, with_ram}
use Rattle.snapshot.specs.Table.{kind_of_image}
use Rattle.battery_files.specs.Battery.{has_clock}
use Rattle.refusals.specs.declared.refusal.Refusal.{Refusal}
use Rattle.refusals.specs.declared.refusal.Refusal.TheVariants.{NoBattery, BatteryLength, Memory}

-- The lengths that are taken: as many bytes as the RAM has; with a clock also 48 more, or 44 where the time of writing has four bytes.
abbrev pub is_taken_length : (rom : List ℕ) → ℕ → Bool
is_taken_length rom size =
    size == ram_length_of rom || (has_clock rom && (size == ram_length_of rom + 44 || size == ram_length_of rom + 48))

-- what the RAM keeps of a byte: MBC2 its lower four bits
abbrev pub kept_by : Controller → ℕ → ℕ
kept_by NoMbc byte = byte
kept_by Mbc1 byte = byte
kept_by Mbc2 byte = byte % 16
kept_by Mbc3 byte = byte
kept_by Mbc3Clock byte = byte
kept_by Mbc5 byte = byte

-- the RAM of a cartridge with this controller and so many bytes, which stands first in the file
abbrev pub ram_in : Controller → (ram : ℕ) → (battery : List ℕ) → List ℕ
ram_in kind ram battery = map (kept_by kind) (take ram battery)

-- The registers of a clock that begin at this offset, four bytes each: of the first byte the bits that the register has, as a write to
-- it takes them. The other three bytes do not count.
abbrev pub clock_in : (battery : List ℕ) → (offset : ℕ) → ClockRegisters
clock_in battery offset = record {
  seconds = slice_index battery offset % 64;
  minutes = slice_index battery (offset + 4) % 64;
  hours = slice_index battery (offset + 8) % 32;
  day_low = slice_index battery (offset + 12);
  day_high = 64 * (slice_index battery (offset + 16) / 64) + slice_index battery (offset + 16) % 2;
}

-- the machine at power-on with the RAM of the file
abbrev pub start_with_ram : (rom battery : List ℕ) → MachineState
start_with_ram rom battery = with_ram (ram_in (kind_of_image rom) (ram_length_of rom) battery) (start rom)

-- and with the live and the latched clock that the file has after the RAM, where it has more than that
unfoldable pub start_with : (rom battery : List ℕ) → MachineState
start_with rom battery =
    if nat_lt (ram_length_of rom) (length battery)
    then with_clocks (clock_in battery (ram_length_of rom)) (clock_in battery (ram_length_of rom + 20)) (start_with_ram rom battery)
    else start_with_ram rom battery

-- why a file is not taken: a cartridge without battery; another length; and want of memory only where neither holds
abbrev pub IsImportCause : (rom battery : List ℕ) → Refusal → Type 0
IsImportCause rom battery NoBattery = has_battery rom ≡ false
IsImportCause rom battery (BatteryLength found needed) =
    (has_battery rom ≡ true) × (is_taken_length rom (length battery) ≡ false) × (found ≡ length battery) × (needed ≡ ram_length_of rom)
IsImportCause rom battery Memory = (has_battery rom ≡ true) × (is_taken_length rom (length battery) ≡ true)
IsImportCause rom battery why = ⊥
