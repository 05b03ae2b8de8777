-- Battery files: what other emulators and cartridges keep of a game. The bytes after the RAM are those that other emulators write for
-- MBC3's clock.
use Rattle.std.specs.Prelude.{ℕ, ◌+◌, Bool, if◌then◌else◌, List, [], ◌∷◌, ◌++◌}
use Rattle.cartridge.specs.Header.{ram_length_of}
use Rattle.bank_controllers.specs.declared.clock.ClockRegisters.{ClockRegisters}
use Rattle.bank_controllers.specs.State.{has_clock as has_clock_of}
use Rattle.machine.specs.Machine.{MachineState}
use Rattle.snapshot.specs.Table.{kind_of_image}

-- whether it has MBC3's clock
abbrev pub has_clock : (rom : List ℕ) → Bool
has_clock rom = has_clock_of (kind_of_image rom)

-- the bytes of a file that is written: the RAM, and 48 more for a clock
abbrev pub battery_length : (rom : List ℕ) → ℕ
battery_length rom = if has_clock rom then ram_length_of rom + 48 else ram_length_of rom

-- a register in four bytes, low byte first
abbrev pub in_four : ℕ → List ℕ
in_four register = register ∷ 0 ∷ 0 ∷ 0 ∷ []

-- the registers of a clock, twenty bytes
abbrev pub registers_bytes : ClockRegisters → List ℕ
registers_bytes c = in_four c.seconds ++ (in_four c.minutes ++ (in_four c.hours ++ (in_four c.day_low ++ in_four c.day_high)))

-- the Unix time of writing in eight bytes, low byte first: always 0, since the program does not know the time
abbrev pub no_time : List ℕ
no_time = 0 ∷ 0 ∷ 0 ∷ 0 ∷ 0 ∷ 0 ∷ 0 ∷ 0 ∷ []

-- the live clock, the latched one, and the time of writing
abbrev pub clock_bytes : (live latched : ClockRegisters) → List ℕ
clock_bytes live latched = registers_bytes live ++ (registers_bytes latched ++ no_time)

-- the battery file of a machine: its RAM, of which each byte is below 16 for MBC2, and the bytes of the clock where it has one
abbrev pub battery_of : MachineState → List ℕ
battery_of m =
    let banks = m.processor.memory.banks in
    if has_clock_of banks.state.kind then banks.ram ++ clock_bytes banks.state.clock banks.state.latched else banks.ram
