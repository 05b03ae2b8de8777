-- Which places are bytes of ROM.
use Rattle.std.proofs.Common.{◌≡◌, ℕ, ◌≤◌, Bool, true, false, None, refl, sym, arith}
use Rattle.std.specs.Prelude.{◌==◌, nat_lt, if◌then◌else◌}
use Rattle.std.proofs.lemmas.Bool.{le-ltb}
use Rattle.cartridge.specs.declared.controller.Controller.{Controller}
use Rattle.cartridge.specs.declared.controller.Controller.TheVariants.{NoMbc, Mbc1, Mbc2, Mbc3, Mbc3Clock, Mbc5}
use Rattle.bank_controllers.specs.CartridgeState.{CartridgeState, place_of}
use Rattle.bank_controllers.specs.Places.{Place, Ram, Nowhere, in_clock, in_enabled_ram, in_ram, in_ram_bank, is_ram_enabled}
use Rattle.bank_controllers.specs.declared.state.BanksState.{BanksState}
use Rattle.debugging.specs.Profile.{rom_offset}

either : (b : Bool) (x y : Place) → rom_offset x ≡ None → rom_offset y ≡ None → rom_offset (if b then x else y) ≡ None
either true x y first second = first
either false x y first second = second

in_bank : (ram n offset : ℕ) → rom_offset (in_ram_bank ram n offset) ≡ None
in_bank ram n offset = either (nat_lt ram 8192) Nowhere (Ram _) refl refl

clock : (select : ℕ) → rom_offset (in_clock select) ≡ None
clock select = either (select == 8) _ _ refl (either (select == 9) _ _ refl (either (select == 10) _ _ refl (either (select == 11) _ _ refl (either (select == 12) _ _ refl refl))))

enabled : (kind : Controller) (ram : ℕ) (s : BanksState) (offset : ℕ) → rom_offset (in_enabled_ram kind ram s offset) ≡ None
enabled NoMbc ram s offset = in_bank ram 0 offset
enabled Mbc1 ram s offset = in_bank ram (if s.mode then s.ram_bank else 0) offset
enabled Mbc2 ram s offset = refl
enabled Mbc3 ram s offset = either (nat_lt s.ram_bank 8) (in_ram_bank ram s.ram_bank offset) Nowhere (in_bank ram s.ram_bank offset) refl
enabled Mbc3Clock ram s offset = either (nat_lt s.ram_bank 8) (in_ram_bank ram s.ram_bank offset) (in_clock s.ram_bank) (in_bank ram s.ram_bank offset) (clock s.ram_bank)
enabled Mbc5 ram s offset = in_bank ram s.ram_bank offset

ram_is_none : (ram : ℕ) (s : BanksState) (offset : ℕ) → rom_offset (in_ram ram s offset) ≡ None
unfolding in_ram
ram_is_none ram s offset = either (is_ram_enabled s.kind s) (in_enabled_ram s.kind ram s offset) Nowhere (enabled s.kind ram s offset) refl

pub not_rom : (b : CartridgeState) (address : ℕ) → 0x8000 ≤ address → None ≡ rom_offset (place_of b address)
unfolding place_of
not_rom b address high =
    let low : nat_lt address 0x4000 ≡ false = le-ltb _ _ (omega (arith, high)) in
    let middle : nat_lt address 0x8000 ≡ false = le-ltb _ _ (omega (arith, high)) in
    rw (low, middle) (sym (either _ _ Nowhere (ram_is_none _ b.state _) refl))
