-- Laws of battery files, which public functions state.
use Rattle.std.specs.Prelude.{◌≡◌, ◌<◌, ℕ, true, false, List, length, ◌++◌}
use Rattle.std.specs.List.{All}
use Rattle.cartridge.specs.Header.{ram_length_of}
use Rattle.cartridge.specs.declared.controller.Controller.TheVariants.{Mbc2}
use Rattle.bank_controllers.specs.Clock.{IsLegalClock}
use Rattle.bank_controllers.specs.declared.clock.ClockRegisters.{ClockRegisters}
use Rattle.machine.specs.Machine.{MachineState}
use Rattle.snapshot.specs.Legal.{IsMachineOf}
use Rattle.snapshot.specs.Table.{kind_of_image}
use Rattle.battery_files.specs.Battery.{battery_length, battery_of, clock_bytes, has_clock}
use Rattle.battery_files.specs.Importing.{start_with}

-- as many bytes as the RAM of this cartridge has, half bytes for MBC2
abbrev pub IsRamOf : (rom ram : List ℕ) → Type 0
IsRamOf rom ram = (length ram ≡ ram_length_of rom) × (kind_of_image rom ≡ Mbc2 → All (λ byte. byte < 16) ram)

-- a file for a cartridge without clock is written again as it was taken
abbrev pub RamComesBack : Type 0
RamComesBack = (rom battery : List ℕ) → has_clock rom ≡ false → IsRamOf rom battery → battery_of (start_with rom battery) ≡ battery

-- so is a file with legal clocks and with 0 as its time
abbrev pub ClocksComeBack : Type 0
ClocksComeBack =
    (rom ram : List ℕ) (live latched : ClockRegisters) → has_clock rom ≡ true → IsRamOf rom ram → IsLegalClock live → IsLegalClock latched
    → battery_of (start_with rom (ram ++ clock_bytes live latched)) ≡ ram ++ clock_bytes live latched

-- the file of a machine has the length that its cartridge asks for, and is written again as it was taken
pub record ComesBack (rom : List ℕ) (m : MachineState) : Type 0 where
  pub length : length (battery_of m) ≡ battery_length rom
  pub again : battery_of (start_with rom (battery_of m)) ≡ battery_of m

abbrev pub FilesComeBack : Type 0
FilesComeBack = (rom : List ℕ) (m : MachineState) → IsMachineOf rom m → ComesBack rom m
