-- Files that are taken and written again.
use Rattle.std.proofs.Common.{◌≡◌, ◌∙◌, ℕ, ◌+◌, ◌*◌, ◌/◌, ◌%◌, ◌<◌, ◌≤◌, Bool, true, false, nat_lt, List, [], ◌∷◌, ◌++◌, length, map, refl, sym, ap, subst, arith}
use Rattle.std.specs.Prelude.{slice_index, ◌==◌, ◌&&◌, ◌||◌}
use Rattle.std.specs.List.{All}
use Rattle.std.proofs.lemmas.Bool.{lt-ltb}
use Rattle.std.proofs.lemmas.Bool.Decides.{nat_tests}
use Rattle.std.proofs.lemmas.List.{get_or-append-add, length-append, map-id, take-append-le, take_all}
use Rattle.std.proofs.lemmas.List.Elements.{All-head, All-tail}
use Rattle.cartridge.specs.Header.{ram_length_of}
use Rattle.cartridge.specs.declared.controller.Controller.{Controller}
use Rattle.cartridge.specs.declared.controller.Controller.TheVariants.{NoMbc, Mbc1, Mbc2, Mbc3, Mbc3Clock, Mbc5}
use Rattle.bank_controllers.specs.declared.clock.ClockRegisters.{ClockRegisters}
use Rattle.bank_controllers.specs.Clock.{IsLegalClock}
use Rattle.bank_controllers.specs.State.{has_clock as has_clock_of}
use Rattle.bank_controllers.specs.CartridgeState.{IsLegalRam, cartridge_at_power_on}
use Rattle.machine.specs.Machine.{MachineState, with_clocks}
use Rattle.snapshot.specs.Legal.{IsMachineOf}
use Rattle.snapshot.specs.Table.{kind_of_image}
use Rattle.battery_files.specs.Battery.{battery_length, battery_of, clock_bytes, has_clock}
use Rattle.battery_files.specs.Importing.{clock_in, kept_by, ram_in, start_with, start_with_ram}
use Rattle.battery_files.specs.Laws.{ClocksComeBack, ComesBack, FilesComeBack, IsRamOf, RamComesBack}

-- ---- which machine a file begins

-- a length that is taken is no shorter than the RAM, and with more than that there are two clocks
pub taken_size : (clocked : Bool) (ram size : ℕ) → (size == ram || (clocked && (size == ram + 44 || size == ram + 48))) ≡ true → ram ≤ size
taken_size true ram size test = grind (arith, nat_tests)
taken_size false ram size test = grind (arith, nat_tests)

more_is_enough : (ram size : ℕ) → (size == ram || (size == ram + 44 || size == ram + 48)) ≡ true → ram < size → ram + 40 ≤ size
more_is_enough ram size test more = grind (arith, nat_tests)

only_ram : (ram size : ℕ) → (size == ram || false) ≡ true → ram < size → ⊥
only_ram ram size test more = grind (arith, nat_tests)

pub more_is_clock : (clocked : Bool) (ram size : ℕ) → (size == ram || (clocked && (size == ram + 44 || size == ram + 48))) ≡ true → ram < size → (clocked ≡ true) × (ram + 40 ≤ size)
more_is_clock true ram size test more = (refl, more_is_enough ram size test more)
more_is_clock false ram size test more = absurd (only_ram ram size test more)

pub file_of_ram : (rom battery : List ℕ) → length battery ≤ ram_length_of rom → start_with rom battery ≡ start_with_ram rom battery
unfolding start_with
file_of_ram rom battery few = let off : nat_lt (ram_length_of rom) (length battery) ≡ false = grind (arith, nat_tests) in rw off refl

pub file_with_clocks :
    (rom battery : List ℕ) → ram_length_of rom < length battery
    → start_with rom battery ≡ with_clocks (clock_in battery (ram_length_of rom)) (clock_in battery (ram_length_of rom + 20)) (start_with_ram rom battery)
unfolding start_with
file_with_clocks rom battery more = let on : nat_lt (ram_length_of rom) (length battery) ≡ true = lt-ltb _ _ more in rw on refl

-- ---- the RAM

halves_stay : (bytes : List ℕ) → All (λ byte. byte < 16) bytes → map (λ byte. byte % 16) bytes ≡ bytes
halves_stay [] small = refl
halves_stay (byte ∷ bytes) small =
    let first : byte < 16 = All-head (λ byte. byte < 16) byte bytes small in
    let same : byte % 16 ≡ byte = omega arith in
    let rest = halves_stay bytes (All-tail (λ byte. byte < 16) byte bytes small) in
    cc

kept_stays : (kind : Controller) (ram : List ℕ) → (kind ≡ Mbc2 → All (λ byte. byte < 16) ram) → map (kept_by kind) ram ≡ ram
kept_stays NoMbc ram small = map-id ram
kept_stays Mbc1 ram small = map-id ram
kept_stays Mbc2 ram small = halves_stay ram (small refl)
kept_stays Mbc3 ram small = map-id ram
kept_stays Mbc3Clock ram small = map-id ram
kept_stays Mbc5 ram small = map-id ram

ram_stays : (rom ram rest : List ℕ) → IsRamOf rom ram → ram_in (kind_of_image rom) (ram_length_of rom) (ram ++ rest) ≡ ram
ram_stays rom ram rest (size, small) =
    ap (map (kept_by (kind_of_image rom))) (take-append-le (ram_length_of rom) ram rest (omega arith) ∙ take_all (ram_length_of rom) ram (omega arith))
    ∙ kept_stays (kind_of_image rom) ram small

-- ---- the clocks

behind : (ram rest : List ℕ) (offset k : ℕ) → offset ≡ length ram + k → slice_index (ram ++ rest) offset ≡ slice_index rest k
behind ram rest offset k is = ap (λ n. slice_index (ram ++ rest) n) is ∙ get_or-append-add ram rest k 0

clock_behind : (ram rest : List ℕ) (offset k : ℕ) → offset ≡ length ram + k → clock_in (ram ++ rest) offset ≡ clock_in rest k
clock_behind ram rest offset k is =
    let s = behind ram rest offset k is in
    let m = behind ram rest (offset + 4) (k + 4) (omega arith) in
    let h = behind ram rest (offset + 8) (k + 8) (omega arith) in
    let l = behind ram rest (offset + 12) (k + 12) (omega arith) in
    let d = behind ram rest (offset + 16) (k + 16) (omega arith) in
    rw (s, m, h, l, d) refl

high_stays : (d : ℕ) → d < 256 → d % 64 < 2 → 64 * (d / 64) + d % 2 ≡ d
high_stays d fits unused = omega arith

clock_stays :
    (c : ClockRegisters) → IsLegalClock c
    → record { seconds = c.seconds % 64; minutes = c.minutes % 64; hours = c.hours % 32; day_low = c.day_low; day_high = 64 * (c.day_high / 64) + c.day_high % 2 } ≡ c
clock_stays c legal =
    let s : c.seconds % 64 ≡ c.seconds = omega (arith, legal.seconds) in
    let m : c.minutes % 64 ≡ c.minutes = omega (arith, legal.minutes) in
    let h : c.hours % 32 ≡ c.hours = omega (arith, legal.hours) in
    let d = high_stays c.day_high legal.day_high legal.unused in
    rw (s, m, h, d) refl

live_stays : (ram : List ℕ) (live latched : ClockRegisters) (offset : ℕ) → offset ≡ length ram → IsLegalClock live → clock_in (ram ++ clock_bytes live latched) offset ≡ live
live_stays ram live latched offset is legal = clock_behind ram (clock_bytes live latched) offset 0 (omega arith) ∙ clock_stays live legal

latched_stays : (ram : List ℕ) (live latched : ClockRegisters) (offset : ℕ) → offset ≡ length ram + 20 → IsLegalClock latched → clock_in (ram ++ clock_bytes live latched) offset ≡ latched
latched_stays ram live latched offset is legal = clock_behind ram (clock_bytes live latched) offset 20 is ∙ clock_stays latched legal

clock_length : (live latched : ClockRegisters) → length (clock_bytes live latched) ≡ 48
clock_length live latched = refl

-- ---- the laws

pub ram_comes_back : RamComesBack
unfolding cartridge_at_power_on
ram_comes_back rom battery off (size, small) =
    ap battery_of (file_of_ram rom battery (omega arith))
    ∙ (let whole = take_all (ram_length_of rom) battery (omega arith) in rw (off, whole) (kept_stays (kind_of_image rom) battery small))

written :
    (rom file : List ℕ) (live latched : ClockRegisters) → has_clock rom ≡ true
    → battery_of (with_clocks live latched (start_with_ram rom file)) ≡ ram_in (kind_of_image rom) (ram_length_of rom) file ++ clock_bytes live latched
unfolding cartridge_at_power_on
written rom file live latched on = rw on refl

pub clocks_come_back : ClocksComeBack
clocks_come_back rom ram live latched on (size, small) live_legal latched_legal =
    let rest = clock_bytes live latched in
    let long : ram_length_of rom < length (ram ++ rest) = omega (arith, length-append ram rest, clock_length live latched) in
    let same = ram_stays rom ram rest (size, small) in
    let first = live_stays ram live latched (ram_length_of rom) (sym size) live_legal in
    let second = latched_stays ram live latched (ram_length_of rom + 20) (omega arith) latched_legal in
    ap battery_of (file_with_clocks rom (ram ++ rest) long)
    ∙ written rom (ram ++ rest) (clock_in (ram ++ rest) (ram_length_of rom)) (clock_in (ram ++ rest) (ram_length_of rom + 20)) on
    ∙ (λ i. same i ++ clock_bytes (first i) (second i))

-- ---- the file of a machine

pub plain : (m : MachineState) → has_clock_of m.processor.memory.banks.state.kind ≡ false → battery_of m ≡ m.processor.memory.banks.ram
plain m off = rw off refl

pub with_clock : (m : MachineState) → has_clock_of m.processor.memory.banks.state.kind ≡ true → battery_of m ≡ m.processor.memory.banks.ram ++ clock_bytes m.processor.memory.banks.state.clock m.processor.memory.banks.state.latched
with_clock m on = rw on refl

small_ram : (kind : Controller) (ram : List ℕ) → IsLegalRam kind ram → kind ≡ Mbc2 → All (λ byte. byte < 16) ram
small_ram kind ram legal is = (subst (λ (k : Controller). IsLegalRam k ram) is legal).1

ram_of_machine : (rom : List ℕ) (m : MachineState) → IsMachineOf rom m → IsRamOf rom m.processor.memory.banks.ram
ram_of_machine rom m of = (of.ram_length, λ is. small_ram m.processor.memory.banks.state.kind m.processor.memory.banks.ram of.legal.stores.ram (of.kind ∙ is))

comes_back : (rom : List ℕ) (m : MachineState) → IsMachineOf rom m → (clocked : Bool) → has_clock rom ≡ clocked → ComesBack rom m
comes_back rom m of false off =
    let ram = m.processor.memory.banks.ram in
    let is : battery_of m ≡ ram = plain m (ap has_clock_of of.kind ∙ off) in
    let wanted : battery_length rom ≡ ram_length_of rom = rw off refl in record {
      length = ap length is ∙ of.ram_length ∙ sym wanted;
      again = subst (λ (file : List ℕ). battery_of (start_with rom file) ≡ file) (sym is) (ram_comes_back rom ram off (ram_of_machine rom m of));
    }
comes_back rom m of true on =
    let ram = m.processor.memory.banks.ram in
    let live = m.processor.memory.banks.state.clock in
    let latched = m.processor.memory.banks.state.latched in
    let kind : has_clock_of m.processor.memory.banks.state.kind ≡ true = ap has_clock_of of.kind ∙ on in
    let is : battery_of m ≡ ram ++ clock_bytes live latched = with_clock m kind in
    let wanted : battery_length rom ≡ ram_length_of rom + 48 = rw on refl in
    let size : length (ram ++ clock_bytes live latched) ≡ ram_length_of rom + 48 = omega (arith, length-append ram (clock_bytes live latched), clock_length live latched, of.ram_length) in record {
      length = ap length is ∙ size ∙ sym wanted;
      again = subst (λ (file : List ℕ). battery_of (start_with rom file) ≡ file) (sym is)
          (clocks_come_back rom ram live latched on (ram_of_machine rom m of) (of.legal.registers.bus.banks.clock.0 kind) (of.legal.registers.bus.banks.latched.0 kind));
    }

pub files_come_back : FilesComeBack
files_come_back rom m of = comes_back rom m of (has_clock rom) refl
