-- No access and no M-cycle changes which cartridge is in the bus.
use Rattle.std.proofs.Common.{◌≡◌, ◌∙◌, ℕ, zero, suc, Bool, true, false, refl, sym, subst}
use Rattle.std.specs.Prelude.{nat_lt, ◌==◌, if◌then◌else◌}
use Rattle.std.specs.Fn.{iterate}
use Rattle.bank_controllers.specs.CartridgeState.{CartridgeState, IsSameCartridge}
use Rattle.bank_controllers.proofs.Same.{same_itself, written-same}
use Rattle.memory_map.specs.declared.place.Place.{Place}
use Rattle.memory_map.specs.declared.place.Place.TheVariants.{Cartridge, Vram, Wram, Oam, Unused, Sound, Register, Hram, InterruptEnable}
use Rattle.memory_map.specs.Map.{place}
use Rattle.memory_map.specs.State.{BusState}
use Rattle.memory_map.specs.Bus.{is_closed, stored_at, register_written, written, acknowledged}
use Rattle.memory_map.specs.Ticks.{tick}

banks_if : (c : CartridgeState) (b : Bool) (x y : BusState) → x.banks ≡ c → y.banks ≡ c → (if b then x else y).banks ≡ c
banks_if c true x y first second = first
banks_if c false x y first second = second

same_if : (c : CartridgeState) (b : Bool) (x y : BusState) → IsSameCartridge c x.banks → IsSameCartridge c y.banks → IsSameCartridge c (if b then x else y).banks
same_if c true x y first second = first
same_if c false x y first second = second

pub same_of : (c d : CartridgeState) → d ≡ c → IsSameCartridge c d
same_of c d e = subst (λ (x : CartridgeState). IsSameCartridge c x) (sym e) (same_itself c)

register_banks : (a v : ℕ) (b : BusState) → (register_written a v b).banks ≡ b.banks
unfolding register_written
register_banks a v b =
    banks_if b.banks (a == 0xFF00) _ _ refl
    (banks_if b.banks (a == 0xFF01) _ _ refl
    (banks_if b.banks (a == 0xFF02) _ _ refl
    (banks_if b.banks (a == 0xFF04) _ _ refl
    (banks_if b.banks (a == 0xFF05) _ _ refl
    (banks_if b.banks (a == 0xFF06) _ _ refl
    (banks_if b.banks (a == 0xFF07) _ _ refl
    (banks_if b.banks (a == 0xFF0F) _ _ refl
    (banks_if b.banks (a == 0xFF46) _ _ refl refl))))))))

stored_same : (p : Place) (v : ℕ) (b : BusState) → IsSameCartridge b.banks (stored_at p v b).banks
stored_same (Cartridge a) v b = written-same a v b.banks
stored_same (Vram i) v b = same_itself b.banks
stored_same (Wram i) v b = same_itself b.banks
stored_same (Oam i) v b = same_itself b.banks
stored_same Unused v b = same_itself b.banks
stored_same (Sound i) v b = same_itself b.banks
stored_same (Register a) v b = same_of b.banks (register_written a v b).banks (register_banks a v b)
stored_same (Hram i) v b = same_itself b.banks
stored_same InterruptEnable v b = same_itself b.banks

pub write_same : (a v : ℕ) (b : BusState) → IsSameCartridge b.banks (written a v b).banks
unfolding written
write_same a v b = same_if b.banks (is_closed b (place a)) b (stored_at (place a) v b) (same_itself b.banks) (stored_same (place a) v b)

pub acknowledged_banks : (bit : ℕ) (b : BusState) → (acknowledged bit b).banks ≡ b.banks
acknowledged_banks bit b =
    banks_if b.banks (bit == 0) _ _ refl
    (banks_if b.banks (bit == 1) _ _ refl
    (banks_if b.banks (bit == 2) _ _ refl
    (banks_if b.banks (bit == 3) _ _ refl
    (banks_if b.banks (bit == 4) _ _ refl refl))))

tick_banks : (b : BusState) → (tick b).banks ≡ b.banks
tick_banks b = banks_if b.banks (nat_lt b.control.dma_copied 160) _ _ refl refl

pub ticks_banks : (n : ℕ) (b : BusState) → (iterate tick n b).banks ≡ b.banks
ticks_banks zero b = refl
ticks_banks (suc n) b = ticks_banks n (tick b) ∙ tick_banks b
