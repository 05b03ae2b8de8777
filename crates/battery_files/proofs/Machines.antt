-- Machines with the RAM and the clocks of a battery file are legal.
use Rattle.std.proofs.Common.{◌≡◌, ◌∙◌, ℕ, ◌*◌, ◌/◌, ◌%◌, ◌<◌, ◌≤◌, true, List, length, map, take, replicate, sym, ap, subst, arith}
use Rattle.std.specs.Prelude.{Some}
use Rattle.std.specs.List.{All}
use Rattle.std.proofs.lemmas.List.{length-map, length-take-le, length-replicate}
use Rattle.std.proofs.lemmas.List.Elements.{All-map}
use Rattle.cartridge.specs.Accepted.{IsAccepted}
use Rattle.cartridge.specs.Header.{controller_of, ram_length_of}
use Rattle.cartridge.specs.declared.controller.Controller.{Controller}
use Rattle.cartridge.specs.declared.controller.Controller.TheVariants.{NoMbc, Mbc1, Mbc2, Mbc3, Mbc3Clock, Mbc5}
use Rattle.bank_controllers.specs.declared.clock.ClockRegisters.{ClockRegisters}
use Rattle.bank_controllers.specs.Clock.{IsLegalClock}
use Rattle.bank_controllers.specs.State.{has_clock, IsClockOf}
use Rattle.bank_controllers.specs.CartridgeState.{IsLegalRam, cartridge_at_power_on}
use Rattle.bank_controllers.proofs.Legal.{ram_at_power_on}
use Rattle.memory_map.specs.Stores.{FitsRegion}
use Rattle.memory_map.specs.declared.region.Region.TheVariants.{CartRam}
use Rattle.machine.specs.Machine.{start}
use Rattle.snapshot.specs.Legal.{IsMachineOf}
use Rattle.snapshot.specs.Table.{kind_of_image}
use Rattle.snapshot.proofs.Offsets.{kind_is}
use Rattle.snapshot.proofs.PowerOn.{start_machine}
use Rattle.snapshot.proofs.PowerSwitch.{with_ram_machine}
use Rattle.battery_files.specs.Importing.{kept_by, ram_in, start_with_ram}

-- ---- the clocks

pub clock_of : (kind : Controller) (registers : ClockRegisters) → has_clock kind ≡ true → IsLegalClock registers → IsClockOf kind registers
clock_of kind registers has legal = (λ _. legal, λ no. absurd (cc))

-- ---- the RAM

halves : (bytes : List ℕ) → All (λ byte. byte < 16) (map (λ byte. byte % 16) bytes)
halves bytes = All-map (λ byte. byte < 16) (λ byte. byte % 16) bytes (λ i d h. omega arith)

-- kept bytes are legal where as many others are
pub kept_legal : (kind : Controller) (ram bytes : List ℕ) → IsLegalRam kind ram → length (map (kept_by kind) bytes) ≡ length ram → IsLegalRam kind (map (kept_by kind) bytes)
kept_legal NoMbc ram bytes legal same = subst (λ n. n ≡ 8192 * (n / 8192)) (sym same) legal
kept_legal Mbc1 ram bytes legal same = subst (λ n. n ≡ 8192 * (n / 8192)) (sym same) legal
kept_legal Mbc2 ram bytes legal same = (same ∙ legal.0, halves bytes)
kept_legal Mbc3 ram bytes legal same = subst (λ n. n ≡ 8192 * (n / 8192)) (sym same) legal
kept_legal Mbc3Clock ram bytes legal same = subst (λ n. n ≡ 8192 * (n / 8192)) (sym same) legal
kept_legal Mbc5 ram bytes legal same = subst (λ n. n ≡ 8192 * (n / 8192)) (sym same) legal

pub ram_in_length : (kind : Controller) (ram : ℕ) (battery : List ℕ) → ram ≤ length battery → length (ram_in kind ram battery) ≡ ram
ram_in_length kind ram battery enough = length-map (take ram battery) (kept_by kind) ∙ length-take-le ram battery enough

-- the RAM of a file fits a machine at power-on
pub start_fits :
    (rom battery ram : List ℕ) (kind : Controller) → controller_of rom ≡ Some kind → ram_length_of rom ≤ length battery
    → ram ≡ ram_in kind (ram_length_of rom) battery → FitsRegion (start rom).processor.memory CartRam ram
unfolding cartridge_at_power_on
start_fits rom battery ram kind known enough is =
    let kept = ram_in kind (ram_length_of rom) battery in
    let size : length kept ≡ length (replicate (ram_length_of rom) 0) = ram_in_length kind (ram_length_of rom) battery enough ∙ sym (length-replicate {A = ℕ} (ram_length_of rom) 0) in
    let legal = kept_legal kind (replicate (ram_length_of rom) 0) (take (ram_length_of rom) battery) (ram_at_power_on rom kind known) size in (
      ap length is ∙ size,
      subst (λ (k : Controller). IsLegalRam k ram) (sym (kind_is rom kind known)) (subst (IsLegalRam kind) (sym is) legal),
    )

-- ---- the machine of a file is a machine of the cartridge

pub start_with_ram_machine : (rom battery : List ℕ) → IsAccepted rom → ram_length_of rom ≤ length battery → IsMachineOf rom (start_with_ram rom battery)
start_with_ram_machine rom battery accepted enough =
    let of = start_machine rom accepted in
    let kind = kind_of_image rom in
    let size = ram_in_length kind (ram_length_of rom) battery enough in
    let old = (start rom).processor.memory.banks.ram in
    let legal : IsLegalRam kind old = subst (λ (k : Controller). IsLegalRam k old) of.kind of.legal.stores.ram in
    with_ram_machine rom (ram_in kind (ram_length_of rom) battery) (start rom)
    (subst (λ (k : Controller). IsLegalRam k (ram_in kind (ram_length_of rom) battery)) (sym of.kind) (kept_legal kind old (take (ram_length_of rom) battery) legal (size ∙ sym of.ram_length)))
    size of
