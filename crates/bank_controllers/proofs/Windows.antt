-- The code's window gives the places of the table.
use Rattle.std.proofs.Common.{◌≡◌, ℕ, Bool, true, false, refl, sym}
use Rattle.std.specs.Prelude.{nat_lt, ◌==◌, if◌then◌else◌}
use Rattle.cartridge.specs.declared.controller.Controller.{Controller}
use Rattle.cartridge.specs.declared.controller.Controller.TheVariants.{NoMbc, Mbc1, Mbc2, Mbc3, Mbc3Clock, Mbc5}
use Rattle.bank_controllers.specs.declared.state.BanksState.{BanksState}
use Rattle.bank_controllers.specs.declared.window.Window.{Window}
use Rattle.bank_controllers.specs.Places.{Place, in_ram_bank, in_clock, in_enabled_ram, is_ram_enabled, in_ram}
use Rattle.bank_controllers.specs.Window.{ram_bank_shown, clock_shown, open_window, window_of, place_in}

-- a choice of windows, whose places are known
place_if : (c : Bool) (v w : Window) (p q : Place) (offset : ℕ) → place_in v offset ≡ p → place_in w offset ≡ q →
    place_in (if c then v else w) offset ≡ (if c then p else q)
place_if true v w p q offset first second = first
place_if false v w p q offset first second = second

of_ram_bank : (ram n offset : ℕ) → place_in (ram_bank_shown ram n) offset ≡ in_ram_bank ram n offset
of_ram_bank ram n offset = place_if (nat_lt ram 8192) _ _ _ _ offset refl refl

of_clock : (select offset : ℕ) → place_in (clock_shown select) offset ≡ in_clock select
of_clock select offset =
    place_if (select == 8) _ _ _ _ offset refl (place_if (select == 9) _ _ _ _ offset refl (place_if (select == 10) _ _ _ _ offset refl
    (place_if (select == 11) _ _ _ _ offset refl (place_if (select == 12) _ _ _ _ offset refl refl))))

of_enabled : (k : Controller) (ram : ℕ) (s : BanksState) (offset : ℕ) → place_in (open_window k ram s) offset ≡ in_enabled_ram k ram s offset
of_enabled NoMbc ram s offset = of_ram_bank ram 0 offset
of_enabled Mbc1 ram s offset = of_ram_bank ram (if s.mode then s.ram_bank else 0) offset
of_enabled Mbc2 ram s offset = refl
of_enabled Mbc3 ram s offset = place_if (nat_lt s.ram_bank 8) _ _ _ _ offset (of_ram_bank ram s.ram_bank offset) refl
of_enabled Mbc3Clock ram s offset = place_if (nat_lt s.ram_bank 8) _ _ _ _ offset (of_ram_bank ram s.ram_bank offset) (of_clock s.ram_bank offset)
of_enabled Mbc5 ram s offset = of_ram_bank ram s.ram_bank offset

pub shows_its_places : (ram : ℕ) (s : BanksState) (offset : ℕ) → in_ram ram s offset ≡ place_in (window_of ram s) offset
unfolding in_ram window_of
shows_its_places ram s offset = sym (place_if (is_ram_enabled s.kind s) _ _ _ _ offset (of_enabled s.kind ram s offset) refl)
