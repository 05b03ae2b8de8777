-- No write and no second changes which cartridge it is.
use Rattle.std.proofs.Common.{◌≡◌, ◌∙◌, ℕ, zero, suc, ◌/◌, ◌%◌, Bool, true, false, refl, length-set}
use Rattle.std.specs.Prelude.{nat_lt, ◌==◌, ◌&&◌, if◌then◌else◌}
use Rattle.std.specs.Fn.{iterate}
use Rattle.cartridge.specs.declared.controller.Controller.{Controller}
use Rattle.cartridge.specs.declared.controller.Controller.TheVariants.{NoMbc, Mbc1, Mbc2, Mbc3, Mbc3Clock, Mbc5}
use Rattle.bank_controllers.specs.declared.state.BanksState.{BanksState}
use Rattle.bank_controllers.specs.State.{has_clock}
use Rattle.bank_controllers.specs.Writes.{register_written_by, register_written}
use Rattle.bank_controllers.specs.Places.{Place, Rom, Ram, HalfByte, Register, Nowhere}
use Rattle.bank_controllers.specs.CartridgeState.{CartridgeState, IsSameCartridge, place_of, stored_at, written, second}

pub same_itself : (b : CartridgeState) → IsSameCartridge b b
same_itself b = record { rom = refl; ram_length = refl; rumble = refl; kind = refl }

pub same_then : (a b c : CartridgeState) → IsSameCartridge a b → IsSameCartridge b c → IsSameCartridge a c
same_then a b c first second = record {
  rom = second.rom ∙ first.rom;
  ram_length = second.ram_length ∙ first.ram_length;
  rumble = second.rumble ∙ first.rumble;
  kind = second.kind ∙ first.kind;
}

kind_if : (k : Controller) (b : Bool) (s t : BanksState) → s.kind ≡ k → t.kind ≡ k → (if b then s else t).kind ≡ k
kind_if k true s t first second = first
kind_if k false s t first second = second

kept_by : (k : Controller) (rumble : Bool) (address value : ℕ) (s : BanksState) → (register_written_by k rumble address value s).kind ≡ s.kind
kept_by NoMbc rumble address value s = refl
kept_by Mbc1 rumble address value s =
    kind_if s.kind (nat_lt address 0x2000) _ _ refl (kind_if s.kind (nat_lt address 0x4000) _ _ refl (kind_if s.kind (nat_lt address 0x6000) _ _ refl refl))
kept_by Mbc2 rumble address value s = kind_if s.kind (nat_lt address 0x4000) _ _ (kind_if s.kind (address / 256 % 2 == 0) _ _ refl refl) refl
kept_by Mbc3 rumble address value s =
    kind_if s.kind (nat_lt address 0x2000) _ _ refl (kind_if s.kind (nat_lt address 0x4000) _ _ refl (kind_if s.kind (nat_lt address 0x6000) _ _ refl refl))
kept_by Mbc3Clock rumble address value s =
    kind_if s.kind (nat_lt address 0x6000) _ _
    (kind_if s.kind (nat_lt address 0x2000) _ _ refl (kind_if s.kind (nat_lt address 0x4000) _ _ refl (kind_if s.kind (nat_lt address 0x6000) _ _ refl refl)))
    (kind_if s.kind (value == 0) _ _ refl (kind_if s.kind (s.mode && value == 1) _ _ refl refl))
kept_by Mbc5 rumble address value s =
    kind_if s.kind (nat_lt address 0x2000) _ _ refl (kind_if s.kind (nat_lt address 0x3000) _ _ refl
    (kind_if s.kind (nat_lt address 0x4000) _ _ refl (kind_if s.kind (nat_lt address 0x6000) _ _ refl refl)))

pub register_same : (address value : ℕ) (b : CartridgeState) → IsSameCartridge b (record b { state = register_written b.rumble address value b.state })
unfolding register_written
register_same address value b = record { rom = refl; ram_length = refl; rumble = refl; kind = kept_by b.state.kind b.rumble address value b.state }

stored_same : (p : Place) (value : ℕ) (b : CartridgeState) → IsSameCartridge b (stored_at p value b)
stored_same (Rom offset) value b = same_itself b
stored_same (Ram offset) value b = record { rom = refl; ram_length = length-set b.ram offset value; rumble = refl; kind = refl }
stored_same (HalfByte offset) value b = record { rom = refl; ram_length = length-set b.ram offset (value % 16); rumble = refl; kind = refl }
stored_same (Register register) value b = record { rom = refl; ram_length = refl; rumble = refl; kind = refl }
stored_same Nowhere value b = same_itself b

same_if : (a : CartridgeState) (b : Bool) (c d : CartridgeState) → IsSameCartridge a c → IsSameCartridge a d → IsSameCartridge a (if b then c else d)
same_if a true c d first second = first
same_if a false c d first second = second

pub written-same : (address value : ℕ) (b : CartridgeState) → IsSameCartridge b (written address value b)
unfolding written
written-same address value b = same_if b (nat_lt address 0x8000) _ _ (register_same address value b) (stored_same (place_of b address) value b)

pub second-same : (b : CartridgeState) → IsSameCartridge b (second b)
unfolding second
second-same b = same_if b (has_clock b.state.kind) _ _ (record { rom = refl; ram_length = refl; rumble = refl; kind = refl }) (same_itself b)

pub seconds-same : (n : ℕ) (b : CartridgeState) → IsSameCartridge b (iterate second n b)
seconds-same zero b = same_itself b
seconds-same (suc n) b = same_then b (second b) (iterate second n (second b)) (second-same b) (seconds-same n (second b))
