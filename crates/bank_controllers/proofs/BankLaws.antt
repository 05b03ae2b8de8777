-- What MBC1 can't show, and what RAM reads.
use Rattle.std.proofs.Common.{◌≡◌, ◌∙◌, ℕ, ◌+◌, ◌-◌, ◌*◌, ◌/◌, ◌%◌, ◌<◌, ◌≤◌, List, [], ◌∷◌, length, Bool, true, false, arith, refl, sym, ap, subst, set, length-set}
use Rattle.std.specs.Prelude.{◌≢◌, nat_lt, nat_le, if◌then◌else◌}
use Rattle.std.proofs.lemmas.Bool.Decides.{nat_tests}
use Rattle.std.proofs.lemmas.List.{get_or-set_same, get_or-set_other}
use Rattle.std.proofs.Math.Nat.{mod-lt}
use Rattle.cartridge.specs.declared.controller.Controller.{Controller}
use Rattle.cartridge.specs.declared.controller.Controller.TheVariants.{NoMbc, Mbc1, Mbc2, Mbc3, Mbc3Clock, Mbc5}
use Rattle.bank_controllers.specs.declared.state.BanksState.{BanksState}
use Rattle.bank_controllers.specs.State.{first_rom_bank, last_rom_bank, last_ram_bank}
use Rattle.bank_controllers.specs.Writes.{from_one, mbc1_written, register_written_by, register_written}
use Rattle.bank_controllers.specs.Places.{Place, Rom, Ram, HalfByte, Register, Nowhere, high_bank_of, rom_bank_start, high_start, in_ram_bank, in_enabled_ram, is_ram_enabled, in_ram}
use Rattle.bank_controllers.specs.CartridgeState.{CartridgeState, IsLegalCartridge, IsLegalRam, place_of, value_at, read_at, stored_at, written}
use Rattle.bank_controllers.specs.Laws.{Write, after_writes, ShowsNoneOfFour, Mbc1NeverShowsFourBanks, IsRamShown, kept_of, RamReadsWhatWasWritten}

-- ---- MBC1

-- what every write leaves of an MBC1 of 128 banks
record IsLarge (b : CartridgeState) : Type 0 where
  kind : b.state.kind ≡ Mbc1
  size : length b.rom ≡ 128 * 16384
  first : 1 ≤ b.state.rom_bank
  last : b.state.rom_bank < 32
  upper : b.state.ram_bank < 4

large_if : (c : Bool) (a b : CartridgeState) → IsLarge a → IsLarge b → IsLarge (if c then a else b)
large_if true a b first second = first
large_if false a b first second = second

large_stored : (p : Place) (value : ℕ) (b : CartridgeState) → IsLarge b → IsLarge (stored_at p value b)
large_stored (Rom offset) value b h = h
large_stored (Ram offset) value b h = record { kind = h.kind; size = h.size; first = h.first; last = h.last; upper = h.upper }
large_stored (HalfByte offset) value b h = record { kind = h.kind; size = h.size; first = h.first; last = h.last; upper = h.upper }
large_stored (Register register) value b h = record { kind = h.kind; size = h.size; first = h.first; last = h.last; upper = h.upper }
large_stored Nowhere value b h = h

abbrev with_state : BanksState → CartridgeState → CartridgeState
with_state s b = record b { state = s }

large_state_if : (c : Bool) (s t : BanksState) (b : CartridgeState) → IsLarge (with_state s b) → IsLarge (with_state t b) → IsLarge (with_state (if c then s else t) b)
large_state_if true s t b first second = first
large_state_if false s t b first second = second

from_one-small : (n : ℕ) → n < 32 → (1 ≤ from_one n) × (from_one n < 32)
from_one-small n h = grind (arith, nat_tests)

large_mbc1 : (address value : ℕ) (b : CartridgeState) → IsLarge b → IsLarge (with_state (mbc1_written address value b.state) b)
large_mbc1 address value b h =
    let bank = from_one-small (value % 32) (omega arith) in
    large_state_if (nat_lt address 0x2000) _ _ b (record { kind = h.kind; size = h.size; first = h.first; last = h.last; upper = h.upper })
    (large_state_if (nat_lt address 0x4000) _ _ b (record { kind = h.kind; size = h.size; first = bank.0; last = bank.1; upper = h.upper })
    (large_state_if (nat_lt address 0x6000) _ _ b (record { kind = h.kind; size = h.size; first = h.first; last = h.last; upper = omega arith })
    (record { kind = h.kind; size = h.size; first = h.first; last = h.last; upper = h.upper })))

large_written : (address value : ℕ) (b : CartridgeState) → IsLarge b → IsLarge (written address value b)
unfolding written register_written
large_written address value b h =
    let P : Controller → Type 0 = λ k. IsLarge (with_state (register_written_by k b.rumble address value b.state) b) in
    large_if (nat_lt address 0x8000) _ _ (subst P (sym h.kind) (large_mbc1 address value b h)) (large_stored (place_of b address) value b h)

large_after : (writes : List Write) (b : CartridgeState) → IsLarge b → IsLarge (after_writes writes b)
large_after [] b h = h
large_after (w ∷ writes) b h = large_after writes (written w.address w.value b) (large_written w.address w.value b h)

large_shows : (b : CartridgeState) → IsLarge b → ShowsNoneOfFour b
unfolding place_of high_start
large_shows b h = record {
  bank = 32 * b.state.ram_bank + b.state.rom_bank;
  present = omega (arith, h.last, h.upper);
  not_0 = λ e. omega (arith, e, h.first);
  not_32 = λ e. omega (arith, e, h.first, h.last);
  not_64 = λ e. omega (arith, e, h.first, h.last);
  not_96 = λ e. omega (arith, e, h.first, h.last);
  shown = λ a low high.
      let at : high_start (length b.rom) b.state ≡ 16384 * (32 * b.state.ram_bank + b.state.rom_bank) =
      ap (λ k. rom_bank_start (length b.rom) (high_bank_of k b.state)) h.kind
      ∙ ap (λ n. rom_bank_start n (32 * b.state.ram_bank + b.state.rom_bank)) h.size
      ∙ omega (arith, h.last, h.upper) in
      let above : nat_lt a 0x4000 ≡ false = grind (arith, nat_tests) in
      let below : nat_lt a 0x8000 ≡ true = grind (arith, nat_tests) in
      rw (above, below, at) refl;
}

pub never_shows_four : Mbc1NeverShowsFourBanks
never_shows_four b writes legal kind size =
    let first : first_rom_bank Mbc1 ≤ b.state.rom_bank = subst (λ k. first_rom_bank k ≤ b.state.rom_bank) kind legal.state.first in
    let last : b.state.rom_bank ≤ last_rom_bank Mbc1 = subst (λ k. b.state.rom_bank ≤ last_rom_bank k) kind legal.state.last in
    let upper : b.state.ram_bank ≤ last_ram_bank Mbc1 b.rumble = subst (λ k. b.state.ram_bank ≤ last_ram_bank k b.rumble) kind legal.state.ram_bank in
    large_shows (after_writes writes b)
    (large_after writes b (record { kind = kind; size = size; first = first; last = omega arith; upper = omega arith }))

-- ---- RAM

abbrev with_ram : List ℕ → CartridgeState → CartridgeState
with_ram ram b = record b { ram = ram }

-- a place goes by the registers and by how much RAM there is
same_place : (b : CartridgeState) (ram : List ℕ) (a : ℕ) → length ram ≡ length b.ram → place_of (with_ram ram b) a ≡ place_of b a
unfolding place_of
same_place b ram a e = rw e refl

-- a place of RAM or of a half byte reads what it took
module _ (b : CartridgeState) (a value i : ℕ) (above : 0x8000 ≤ a) where
  goes_on : written a value b ≡ stored_at (place_of b a) value b
  unfolding written
  goes_on = let e : nat_lt a 0x8000 ≡ false = grind (arith, nat_tests) in rw e refl

  from_ram : place_of b a ≡ Ram i → i < length b.ram → read_at (written a value b) a ≡ value
  unfolding read_at
  from_ram at within =
      ap (λ c. value_at c (place_of c a)) (goes_on ∙ ap (λ p. stored_at p value b) at)
      ∙ ap (value_at (with_ram (set b.ram i value) b)) (same_place b (set b.ram i value) a (length-set b.ram i value) ∙ at)
      ∙ get_or-set_same b.ram i value 0 within

  from_half_byte : place_of b a ≡ HalfByte i → i < length b.ram → read_at (written a value b) a ≡ 240 + value % 16
  unfolding read_at
  from_half_byte at within =
      ap (λ c. value_at c (place_of c a)) (goes_on ∙ ap (λ p. stored_at p value b) at)
      ∙ ap (value_at (with_ram (set b.ram i (value % 16)) b)) (same_place b (set b.ram i (value % 16)) a (length-set b.ram i (value % 16)) ∙ at)
      ∙ ap (λ (n : ℕ). 240 + n) (get_or-set_same b.ram i (value % 16) 0 within)

  -- and another such place reads as before
  beside_ram : (other j : ℕ) → place_of b a ≡ Ram i → place_of b other ≡ Ram j → Ram j ≢ Ram i → read_at (written a value b) other ≡ read_at b other
  unfolding read_at
  beside_ram other j at there apart =
      ap (λ c. value_at c (place_of c other)) (goes_on ∙ ap (λ p. stored_at p value b) at)
      ∙ ap (value_at (with_ram (set b.ram i value) b)) (same_place b (set b.ram i value) other (length-set b.ram i value) ∙ there)
      ∙ get_or-set_other b.ram i j value 0 (λ same. apart (ap Ram same))
      ∙ ap (value_at b) (sym there)

  beside_half_byte : (other j : ℕ) → place_of b a ≡ HalfByte i → place_of b other ≡ HalfByte j → HalfByte j ≢ HalfByte i → read_at (written a value b) other ≡ read_at b other
  unfolding read_at
  beside_half_byte other j at there apart =
      ap (λ c. value_at c (place_of c other)) (goes_on ∙ ap (λ p. stored_at p value b) at)
      ∙ ap (value_at (with_ram (set b.ram i (value % 16)) b)) (same_place b (set b.ram i (value % 16)) other (length-set b.ram i (value % 16)) ∙ there)
      ∙ ap (λ (n : ℕ). 240 + n) (get_or-set_other b.ram i j (value % 16) 0 (λ same. apart (ap HalfByte same)))
      ∙ ap (value_at b) (sym there)

at_a000 : (b : CartridgeState) (a : ℕ) → 0xA000 ≤ a → a < 0xC000 → place_of b a ≡ in_ram (length b.ram) b.state (a - 0xA000)
unfolding place_of
at_a000 b a low high =
    let above : nat_lt a 0x4000 ≡ false = grind (arith, nat_tests) in
    let below : nat_lt a 0x8000 ≡ false = grind (arith, nat_tests) in
    let from : nat_le 0xA000 a ≡ true = grind (arith, nat_tests) in
    let to : nat_lt a 0xC000 ≡ true = grind (arith, nat_tests) in
    rw (above, below, from, to) refl

-- a byte of RAM, or of MBC2 a half byte
abbrev IsByteOf : (ℕ → Place) → List ℕ → Place → Type 0
IsByteOf at ram p = (i : ℕ) × (i < length ram) × (p ≡ at i)

abbrev IsRamOf : Controller → List ℕ → Place → Type 0
IsRamOf NoMbc ram p = IsByteOf Ram ram p
IsRamOf Mbc1 ram p = IsByteOf Ram ram p
IsRamOf Mbc2 ram p = IsByteOf HalfByte ram p
IsRamOf Mbc3 ram p = IsByteOf Ram ram p
IsRamOf Mbc3Clock ram p = IsByteOf Ram ram p
IsRamOf Mbc5 ram p = IsByteOf Ram ram p

bank_byte : (ram : List ℕ) (n offset : ℕ) → length ram ≡ 8192 * (length ram / 8192) → 8192 ≤ length ram → offset < 8192 → IsByteOf Ram ram (in_ram_bank (length ram) n offset)
bank_byte ram n offset whole some within =
    let large : nat_lt (length ram) 8192 ≡ false = grind (arith, nat_tests) in
    let banks : 0 < length ram / 8192 = omega (arith, some) in
    rw large (8192 * (n % (length ram / 8192)) + offset, omega (arith, mod-lt n banks, whole), refl)

shown_ram : (k : Controller) (b : CartridgeState) (offset : ℕ) → IsLegalRam k b.ram → IsRamShown k b → offset < 8192 →
    IsRamOf k b.ram (if is_ram_enabled k b.state then in_enabled_ram k (length b.ram) b.state offset else Nowhere)
shown_ram NoMbc b offset legal shown within = bank_byte b.ram 0 offset legal shown within
shown_ram Mbc1 b offset legal shown within = rw shown.1 (bank_byte b.ram (if b.state.mode then b.state.ram_bank else 0) offset legal shown.0 within)
shown_ram Mbc2 b offset legal shown within = rw shown (offset % 512, omega (arith, legal.0), refl)
shown_ram Mbc3 b offset legal shown within =
    let bank : nat_lt b.state.ram_bank 8 ≡ true = grind (arith, nat_tests) in
    rw (shown.1, bank) (bank_byte b.ram b.state.ram_bank offset legal shown.0 within)
shown_ram Mbc3Clock b offset legal shown within =
    let bank : nat_lt b.state.ram_bank 8 ≡ true = grind (arith, nat_tests) in
    rw (shown.1, bank) (bank_byte b.ram b.state.ram_bank offset legal shown.0 within)
shown_ram Mbc5 b offset legal shown within = rw shown.1 (bank_byte b.ram b.state.ram_bank offset legal shown.0 within)

reads_by_kind : (k : Controller) (b : CartridgeState) (a value : ℕ) → 0x8000 ≤ a → IsRamOf k b.ram (place_of b a) → read_at (written a value b) a ≡ kept_of k value
reads_by_kind NoMbc b a value above at = from_ram b a value at.0 above at.2 at.1
reads_by_kind Mbc1 b a value above at = from_ram b a value at.0 above at.2 at.1
reads_by_kind Mbc2 b a value above at = from_half_byte b a value at.0 above at.2 at.1
reads_by_kind Mbc3 b a value above at = from_ram b a value at.0 above at.2 at.1
reads_by_kind Mbc3Clock b a value above at = from_ram b a value at.0 above at.2 at.1
reads_by_kind Mbc5 b a value above at = from_ram b a value at.0 above at.2 at.1

beside_by_kind : (k : Controller) (b : CartridgeState) (a value other : ℕ) → 0x8000 ≤ a → IsRamOf k b.ram (place_of b a) → IsRamOf k b.ram (place_of b other)
    → place_of b other ≢ place_of b a → read_at (written a value b) other ≡ read_at b other
beside_by_kind NoMbc b a value other above at there apart = beside_ram b a value at.0 above other there.0 at.2 there.2 (λ same. apart (there.2 ∙ same ∙ sym at.2))
beside_by_kind Mbc1 b a value other above at there apart = beside_ram b a value at.0 above other there.0 at.2 there.2 (λ same. apart (there.2 ∙ same ∙ sym at.2))
beside_by_kind Mbc2 b a value other above at there apart = beside_half_byte b a value at.0 above other there.0 at.2 there.2 (λ same. apart (there.2 ∙ same ∙ sym at.2))
beside_by_kind Mbc3 b a value other above at there apart = beside_ram b a value at.0 above other there.0 at.2 there.2 (λ same. apart (there.2 ∙ same ∙ sym at.2))
beside_by_kind Mbc3Clock b a value other above at there apart = beside_ram b a value at.0 above other there.0 at.2 there.2 (λ same. apart (there.2 ∙ same ∙ sym at.2))
beside_by_kind Mbc5 b a value other above at there apart = beside_ram b a value at.0 above other there.0 at.2 there.2 (λ same. apart (there.2 ∙ same ∙ sym at.2))

place_shown : (b : CartridgeState) (a : ℕ) → IsLegalCartridge b → IsRamShown b.state.kind b → 0xA000 ≤ a → a < 0xC000 → IsRamOf b.state.kind b.ram (place_of b a)
unfolding in_ram
place_shown b a legal shown low high =
    subst (IsRamOf b.state.kind b.ram) (sym (at_a000 b a low high)) (shown_ram b.state.kind b (a - 0xA000) legal.ram shown (omega arith))

pub reads_what_was_written : RamReadsWhatWasWritten
reads_what_was_written b a value legal shown low high =
    let at = place_shown b a legal shown low high in record {
      there = reads_by_kind b.state.kind b a value (omega arith) at;
      elsewhere = λ other from to apart. beside_by_kind b.state.kind b a value other (omega arith) at (place_shown b other legal shown from to) apart;
    }
