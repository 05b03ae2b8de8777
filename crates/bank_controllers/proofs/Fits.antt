-- Offsets stay within the stores.
use Rattle.std.proofs.Common.{◌≡◌, ◌∙◌, ℕ, ◌+◌, ◌*◌, ◌/◌, ◌<◌, ◌≤◌, List, length, Bool, true, false, arith, inl, inr, refl, sym, subst, ltb, get_or}
use Rattle.std.specs.Prelude.{◌≢◌, nat_lt, ◌==◌, if◌then◌else◌}
use Rattle.std.specs.List.{All}
use Rattle.std.proofs.lemmas.Bool.{cases_lt}
use Rattle.std.proofs.lemmas.Bool.Decides.{nat_tests}
use Rattle.std.proofs.lemmas.List.Elements.{All-get_or}
use Rattle.std.proofs.Math.Nat.{mod-lt}
use Rattle.cartridge.specs.declared.controller.Controller.{Controller}
use Rattle.cartridge.specs.declared.controller.Controller.TheVariants.{NoMbc, Mbc1, Mbc2, Mbc3, Mbc3Clock, Mbc5}
use Rattle.bank_controllers.specs.declared.clock.ClockRegister.{ClockRegister}
use Rattle.bank_controllers.specs.declared.state.BanksState.{BanksState}
use Rattle.bank_controllers.specs.declared.window.Window.{Window}
use Rattle.bank_controllers.specs.declared.window.Window.TheVariants.{RamBank, HalfBytes, Clock, Shut}
use Rattle.bank_controllers.specs.Places.{low_bank_of, high_bank_of, rom_bank_start, low_start, high_start, is_ram_enabled}
use Rattle.bank_controllers.specs.Window.{ram_bank_shown, clock_shown, open_window, window_of}
use Rattle.bank_controllers.specs.State.{has_clock}
use Rattle.bank_controllers.specs.CartridgeState.{IsLegalRam}

-- ---- ROM

rom_bank_fits : (rom n offset : ℕ) → rom ≡ 16384 * (rom / 16384) → 32768 ≤ rom → offset < 16384 → rom_bank_start rom n + offset < rom
rom_bank_fits rom n offset whole least within =
    let some : 0 < rom / 16384 = omega arith in
    omega (arith, mod-lt n some, whole)

pub low_fits : (rom : ℕ) (s : BanksState) (offset : ℕ) → rom ≡ 16384 * (rom / 16384) → 32768 ≤ rom → offset < 16384 → low_start rom s + offset < rom
unfolding low_start
low_fits rom s offset whole least within = rom_bank_fits rom (low_bank_of s.kind s) offset whole least within

pub high_fits : (rom : ℕ) (s : BanksState) (offset : ℕ) → rom ≡ 16384 * (rom / 16384) → 32768 ≤ rom → offset < 16384 → high_start rom s + offset < rom
unfolding high_start
high_fits rom s offset whole least within = rom_bank_fits rom (high_bank_of s.kind s) offset whole least within

-- ---- the window

-- what an open window says of the RAM behind it
abbrev WindowFits : Controller → List ℕ → Window → Type 0
WindowFits kind ram (RamBank start) = (start + 8192 ≤ length ram) × (kind ≢ Mbc2)
WindowFits kind ram HalfBytes = (length ram ≡ 512) × All (λ value. value < 16) ram × (kind ≡ Mbc2)
WindowFits kind ram (Clock register) = has_clock kind ≡ true
WindowFits kind ram Shut = Unit {0}

fits_if : (kind : Controller) (ram : List ℕ) (b : Bool) (v w : Window) → WindowFits kind ram v → WindowFits kind ram w → WindowFits kind ram (if b then v else w)
fits_if kind ram true v w first second = first
fits_if kind ram false v w first second = second

ram_bank_fits : (kind : Controller) (ram : List ℕ) (n : ℕ) → kind ≢ Mbc2 → length ram ≡ 8192 * (length ram / 8192) → WindowFits kind ram (ram_bank_shown (length ram) n)
ram_bank_fits kind ram n other whole =
    elim (cases_lt (length ram) 8192) [
      | inl none ↦
          let small : ltb (length ram) 8192 ≡ true = grind (arith, nat_tests) in
          rw small tt
      | inr some ↦
          let large : ltb (length ram) 8192 ≡ false = grind (arith, nat_tests) in
          let banks : 0 < length ram / 8192 = omega (arith, some) in
          rw large (omega (arith, mod-lt n banks, whole), other)
    ]

clock_fits : (kind : Controller) (ram : List ℕ) (select : ℕ) → has_clock kind ≡ true → WindowFits kind ram (clock_shown select)
clock_fits kind ram select clock =
    fits_if kind ram (select == 8) _ _ clock (fits_if kind ram (select == 9) _ _ clock (fits_if kind ram (select == 10) _ _ clock
    (fits_if kind ram (select == 11) _ _ clock (fits_if kind ram (select == 12) _ _ clock tt))))

open_fits : (kind : Controller) (ram : List ℕ) (s : BanksState) → IsLegalRam kind ram → WindowFits kind ram (open_window kind (length ram) s)
open_fits NoMbc ram s legal = ram_bank_fits NoMbc ram 0 (λ e. cc) legal
open_fits Mbc1 ram s legal = ram_bank_fits Mbc1 ram (if s.mode then s.ram_bank else 0) (λ e. cc) legal
open_fits Mbc2 ram s legal = (legal.0, legal.1, refl)
open_fits Mbc3 ram s legal = fits_if Mbc3 ram (nat_lt s.ram_bank 8) _ _ (ram_bank_fits Mbc3 ram s.ram_bank (λ e. cc) legal) tt
open_fits Mbc3Clock ram s legal = fits_if Mbc3Clock ram (nat_lt s.ram_bank 8) _ _ (ram_bank_fits Mbc3Clock ram s.ram_bank (λ e. cc) legal) (clock_fits Mbc3Clock ram s.ram_bank refl)
open_fits Mbc5 ram s legal = ram_bank_fits Mbc5 ram s.ram_bank (λ e. cc) legal

window_fits : (ram : List ℕ) (s : BanksState) → IsLegalRam s.kind ram → WindowFits s.kind ram (window_of (length ram) s)
unfolding window_of
window_fits ram s legal = fits_if s.kind ram (is_ram_enabled s.kind s) _ _ (open_fits s.kind ram s legal) tt

-- a window that is known to be one of the four
known_fits : (ram : List ℕ) (s : BanksState) (w v : Window) → IsLegalRam s.kind ram → w ≡ window_of (length ram) s → w ≡ v → WindowFits s.kind ram v
known_fits ram s w v legal shown is = subst (WindowFits s.kind ram) (sym shown ∙ is) (window_fits ram s legal)

pub bank_fits : (ram : List ℕ) (s : BanksState) (w : Window) (start : ℕ) → IsLegalRam s.kind ram → w ≡ window_of (length ram) s → w ≡ RamBank start → (start + 8192 ≤ length ram) × (s.kind ≢ Mbc2)
bank_fits ram s w start legal shown is = known_fits ram s w (RamBank start) legal shown is

pub half_bytes_fit : (ram : List ℕ) (s : BanksState) (w : Window) → IsLegalRam s.kind ram → w ≡ window_of (length ram) s → w ≡ HalfBytes → (length ram ≡ 512) × All (λ value. value < 16) ram × (s.kind ≡ Mbc2)
half_bytes_fit ram s w legal shown is = known_fits ram s w HalfBytes legal shown is

pub half_byte_below : (ram : List ℕ) (i d : ℕ) → All (λ value. value < 16) ram → i < length ram → get_or ram i d < 16
half_byte_below ram i d small within = All-get_or (λ value. value < 16) ram i d within small

pub clock_fits_of : (ram : List ℕ) (s : BanksState) (w : Window) (register : ClockRegister) → IsLegalRam s.kind ram → w ≡ window_of (length ram) s → w ≡ Clock register → has_clock s.kind ≡ true
clock_fits_of ram s w register legal shown is = known_fits ram s w (Clock register) legal shown is
