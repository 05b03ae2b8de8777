-- The registers stay legal, and a cartridge begins legal.
use Rattle.std.proofs.Common.{◌≡◌, ◌∙◌, ℕ, zero, suc, ◌+◌, ◌*◌, ◌/◌, ◌%◌, ◌<◌, ◌≤◌, List, length, Bool, true, false, arith, refl, sym, ap, subst, cond, lit≤, set, length-set}
use Rattle.std.specs.Prelude.{◌≢◌, nat_lt, ◌==◌, ◌&&◌, if◌then◌else◌, Option, Some, replicate}
use Rattle.std.specs.Option.{unwrap_or, option_and_then}
use Rattle.std.specs.Fn.{iterate}
use Rattle.std.proofs.lemmas.Bool.Decides.{nat_tests}
use Rattle.std.proofs.lemmas.List.{length-replicate}
use Rattle.std.proofs.lemmas.List.Elements.{All-replicate, All-set}
use Rattle.repeated_steps.proofs.Iterates.{iterate-keeps, iterate-still}
use Rattle.cartridge.specs.Accepted.{IsAccepted}
use Rattle.cartridge.specs.Controllers.{ram_of, coded_ram}
use Rattle.cartridge.specs.Header.{controller_of, ram_code_of, ram_length_of}
use Rattle.cartridge.specs.declared.controller.Controller.{Controller}
use Rattle.cartridge.specs.declared.controller.Controller.TheVariants.{NoMbc, Mbc1, Mbc2, Mbc3, Mbc3Clock, Mbc5}
use Rattle.bank_controllers.specs.declared.clock.ClockRegisters.{ClockRegisters}
use Rattle.bank_controllers.specs.declared.clock.ClockRegister.{ClockRegister}
use Rattle.bank_controllers.specs.declared.clock.ClockRegister.TheVariants.{Seconds, Minutes, Hours, DayLow, DayHigh}
use Rattle.bank_controllers.specs.declared.state.BanksState.{BanksState}
use Rattle.bank_controllers.specs.Clock.{IsLegalClock, clock_at_power_on, clock_second, next_day, day_of, halt_of, with_register}
use Rattle.bank_controllers.specs.State.{IsLegalBanks, IsClockOf, first_rom_bank, last_rom_bank, last_ram_bank, has_ram_enable, has_mode, has_clock, rom_bank_at_power_on, state_at_power_on}
use Rattle.bank_controllers.specs.Writes.{is_enabling, from_one, mbc1_written, mbc2_written, mbc3_banks_written, latch_written, mbc5_written, register_written_by, register_written}
use Rattle.bank_controllers.specs.CartridgeState.{CartridgeState, IsLegalRam, IsLegalCartridge, clock_written, second}
use Rattle.bank_controllers.specs.Invariant.{IsConsistent}
use Rattle.bank_controllers.specs.Places.{low_bank_of, high_bank_of, rom_bank_start, low_start, high_start}
use Rattle.bank_controllers.specs.Window.{window_of}
use Rattle.bank_controllers.specs.declared.window.Window.{Window}
use Rattle.bank_controllers.proofs.ClockJump.{IsDayLegal, day_stays}

-- ---- one register changes

legal_if : (k : Controller) (rumble b : Bool) (s t : BanksState) → IsLegalBanks k rumble s → IsLegalBanks k rumble t → IsLegalBanks k rumble (if b then s else t)
legal_if k rumble true s t first second = first
legal_if k rumble false s t first second = second

with_enabled : (k : Controller) (rumble b : Bool) (s : BanksState) → has_ram_enable k ≡ true → IsLegalBanks k rumble s → IsLegalBanks k rumble (record s { ram_enabled = b })
with_enabled k rumble b s has legal = record {
  kind = legal.kind;
  enable = λ e. absurd (cc);
  first = legal.first;
  last = legal.last;
  ram_bank = legal.ram_bank;
  mode = legal.mode;
  clock = legal.clock;
  latched = legal.latched;
}

with_rom_bank : (k : Controller) (rumble : Bool) (n : ℕ) (s : BanksState) → first_rom_bank k ≤ n → n ≤ last_rom_bank k → IsLegalBanks k rumble s → IsLegalBanks k rumble (record s { rom_bank = n })
with_rom_bank k rumble n s low high legal = record {
  kind = legal.kind;
  enable = legal.enable;
  first = low;
  last = high;
  ram_bank = legal.ram_bank;
  mode = legal.mode;
  clock = legal.clock;
  latched = legal.latched;
}

with_ram_bank : (k : Controller) (rumble : Bool) (n : ℕ) (s : BanksState) → n ≤ last_ram_bank k rumble → IsLegalBanks k rumble s → IsLegalBanks k rumble (record s { ram_bank = n })
with_ram_bank k rumble n s high legal = record {
  kind = legal.kind;
  enable = legal.enable;
  first = legal.first;
  last = legal.last;
  ram_bank = high;
  mode = legal.mode;
  clock = legal.clock;
  latched = legal.latched;
}

with_mode : (k : Controller) (rumble b : Bool) (s : BanksState) → has_mode k ≡ true → IsLegalBanks k rumble s → IsLegalBanks k rumble (record s { mode = b })
with_mode k rumble b s has legal = record {
  kind = legal.kind;
  enable = legal.enable;
  first = legal.first;
  last = legal.last;
  ram_bank = legal.ram_bank;
  mode = λ e. absurd (cc);
  clock = legal.clock;
  latched = legal.latched;
}

pub with_clocks : (k : Controller) (rumble : Bool) (live latch : ClockRegisters) (s : BanksState) → IsClockOf k live → IsClockOf k latch → IsLegalBanks k rumble s → IsLegalBanks k rumble (record s { clock = live; latched = latch })
with_clocks k rumble live latch s first second legal = record {
  kind = legal.kind;
  enable = legal.enable;
  first = legal.first;
  last = legal.last;
  ram_bank = legal.ram_bank;
  mode = legal.mode;
  clock = first;
  latched = second;
}

-- ---- writes below 8000

from_one_within : (n m : ℕ) → 1 < m → n < m → (1 ≤ from_one n) × (from_one n < m)
from_one_within n m some within = grind (arith, nat_tests)

bank_from_one : (k : Controller) (rumble : Bool) (n m : ℕ) (s : BanksState) → 1 < m → n < m → first_rom_bank k ≡ 1 → m ≡ last_rom_bank k + 1 → IsLegalBanks k rumble s → IsLegalBanks k rumble (record s { rom_bank = from_one n })
bank_from_one k rumble n m s some within low high legal =
    let bounds = from_one_within n m some within in
    with_rom_bank k rumble (from_one n) s (omega (arith, bounds.0, low)) (omega (arith, bounds.1, high)) legal

keeps_mbc1 : (rumble : Bool) (address value : ℕ) (s : BanksState) → IsLegalBanks Mbc1 rumble s → IsLegalBanks Mbc1 rumble (mbc1_written address value s)
keeps_mbc1 rumble address value s legal =
    legal_if Mbc1 rumble (nat_lt address 0x2000) _ _ (with_enabled Mbc1 rumble (is_enabling value) s refl legal)
    (legal_if Mbc1 rumble (nat_lt address 0x4000) _ _ (bank_from_one Mbc1 rumble (value % 32) 32 s (omega arith) (omega arith) refl refl legal)
    (legal_if Mbc1 rumble (nat_lt address 0x6000) _ _ (with_ram_bank Mbc1 rumble (value % 4) s (omega arith) legal) (with_mode Mbc1 rumble (value % 2 == 1) s refl legal)))

keeps_mbc2 : (rumble : Bool) (address value : ℕ) (s : BanksState) → IsLegalBanks Mbc2 rumble s → IsLegalBanks Mbc2 rumble (mbc2_written address value s)
keeps_mbc2 rumble address value s legal =
    legal_if Mbc2 rumble (nat_lt address 0x4000) _ _
    (legal_if Mbc2 rumble (address / 256 % 2 == 0) _ _ (with_enabled Mbc2 rumble (is_enabling value) s refl legal) (bank_from_one Mbc2 rumble (value % 16) 16 s (omega arith) (omega arith) refl refl legal))
    legal

keeps_mbc3_banks : (k : Controller) (rumble : Bool) (address value : ℕ) (s : BanksState) → has_ram_enable k ≡ true → first_rom_bank k ≡ 1 → 128 ≡ last_rom_bank k + 1 → last_ram_bank k rumble ≡ 15 → IsLegalBanks k rumble s → IsLegalBanks k rumble (mbc3_banks_written address value s)
keeps_mbc3_banks k rumble address value s enable low high ram legal =
    legal_if k rumble (nat_lt address 0x2000) _ _ (with_enabled k rumble (is_enabling value) s enable legal)
    (legal_if k rumble (nat_lt address 0x4000) _ _ (bank_from_one k rumble (value % 128) 128 s (omega arith) (omega arith) low high legal)
    (legal_if k rumble (nat_lt address 0x6000) _ _ (with_ram_bank k rumble (value % 16) s (omega (arith, ram)) legal) legal))

with_latch : (rumble b : Bool) (s : BanksState) → IsLegalBanks Mbc3Clock rumble s → IsLegalBanks Mbc3Clock rumble (record s { mode = b; latched = s.clock })
with_latch rumble b s legal = record {
  kind = legal.kind;
  enable = legal.enable;
  first = legal.first;
  last = legal.last;
  ram_bank = legal.ram_bank;
  mode = λ e. absurd (cc);
  clock = legal.clock;
  latched = legal.clock;
}

keeps_latch : (rumble : Bool) (value : ℕ) (s : BanksState) → IsLegalBanks Mbc3Clock rumble s → IsLegalBanks Mbc3Clock rumble (latch_written value s)
keeps_latch rumble value s legal =
    legal_if Mbc3Clock rumble (value == 0) _ _ (with_mode Mbc3Clock rumble true s refl legal)
    (legal_if Mbc3Clock rumble (s.mode && value == 1) _ _ (with_latch rumble false s legal) (with_mode Mbc3Clock rumble false s refl legal))

rumble_bank : (rumble : Bool) (value : ℕ) → (if rumble then value % 8 else value % 16) ≤ last_ram_bank Mbc5 rumble
rumble_bank true value = omega arith
rumble_bank false value = omega arith

keeps_mbc5 : (rumble : Bool) (address value : ℕ) (s : BanksState) → value < 256 → IsLegalBanks Mbc5 rumble s → IsLegalBanks Mbc5 rumble (mbc5_written rumble address value s)
keeps_mbc5 rumble address value s small legal =
    let none : 0 ≤ 256 * (s.rom_bank / 256) + value = omega arith in
    let low : 256 * (s.rom_bank / 256) + value ≤ 511 = omega (arith, legal.last) in
    let none' : 0 ≤ 256 * (value % 2) + s.rom_bank % 256 = omega arith in
    let high : 256 * (value % 2) + s.rom_bank % 256 ≤ 511 = omega arith in
    legal_if Mbc5 rumble (nat_lt address 0x2000) _ _ (with_enabled Mbc5 rumble (is_enabling value) s refl legal)
    (legal_if Mbc5 rumble (nat_lt address 0x3000) _ _ (with_rom_bank Mbc5 rumble (256 * (s.rom_bank / 256) + value) s none low legal)
    (legal_if Mbc5 rumble (nat_lt address 0x4000) _ _ (with_rom_bank Mbc5 rumble (256 * (value % 2) + s.rom_bank % 256) s none' high legal)
    (legal_if Mbc5 rumble (nat_lt address 0x6000) _ _ (with_ram_bank Mbc5 rumble (if rumble then value % 8 else value % 16) s (rumble_bank rumble value) legal) legal)))

keeps_by : (k : Controller) (rumble : Bool) (address value : ℕ) (s : BanksState) → value < 256 → IsLegalBanks k rumble s → IsLegalBanks k rumble (register_written_by k rumble address value s)
keeps_by NoMbc rumble address value s small legal = legal
keeps_by Mbc1 rumble address value s small legal = keeps_mbc1 rumble address value s legal
keeps_by Mbc2 rumble address value s small legal = keeps_mbc2 rumble address value s legal
keeps_by Mbc3 rumble address value s small legal = keeps_mbc3_banks Mbc3 rumble address value s refl refl refl refl legal
keeps_by Mbc3Clock rumble address value s small legal =
    legal_if Mbc3Clock rumble (nat_lt address 0x6000) _ _ (keeps_mbc3_banks Mbc3Clock rumble address value s refl refl refl refl legal) (keeps_latch rumble value s legal)
keeps_by Mbc5 rumble address value s small legal = keeps_mbc5 rumble address value s small legal

pub register_written-legal : (rumble : Bool) (address value : ℕ) (s : BanksState) → value < 256 → IsLegalBanks s.kind rumble s → IsLegalBanks s.kind rumble (register_written rumble address value s)
unfolding register_written
register_written-legal rumble address value s small legal = keeps_by s.kind rumble address value s small legal

-- ---- the clock

with_register-legal : (register : ClockRegister) (value : ℕ) (c : ClockRegisters) → value < 256 → IsLegalClock c → IsLegalClock (with_register register value c)
with_register-legal Seconds value c small legal = record { seconds = omega arith; minutes = legal.minutes; hours = legal.hours; day_low = legal.day_low; day_high = legal.day_high; unused = legal.unused }
with_register-legal Minutes value c small legal = record { seconds = legal.seconds; minutes = omega arith; hours = legal.hours; day_low = legal.day_low; day_high = legal.day_high; unused = legal.unused }
with_register-legal Hours value c small legal = record { seconds = legal.seconds; minutes = legal.minutes; hours = omega arith; day_low = legal.day_low; day_high = legal.day_high; unused = legal.unused }
with_register-legal DayLow value c small legal = record { seconds = legal.seconds; minutes = legal.minutes; hours = legal.hours; day_low = small; day_high = legal.day_high; unused = legal.unused }
with_register-legal DayHigh value c small legal = record { seconds = legal.seconds; minutes = legal.minutes; hours = legal.hours; day_low = legal.day_low; day_high = omega (arith, small); unused = omega arith }

clock_of : (k : Controller) (c : ClockRegisters) → has_clock k ≡ true → IsLegalClock c → IsClockOf k c
clock_of k c has legal = (λ e. legal, λ e. absurd (cc))

pub clock_written-legal : (k : Controller) (rumble : Bool) (register : ClockRegister) (value : ℕ) (s : BanksState) → has_clock k ≡ true → value < 256 → IsLegalBanks k rumble s → IsLegalBanks k rumble (clock_written register value s)
clock_written-legal k rumble register value s has small legal =
    with_clocks k rumble (with_register register value s.clock) (with_register register value s.latched) s
    (clock_of k _ has (with_register-legal register value s.clock small (legal.clock.0 has)))
    (clock_of k _ has (with_register-legal register value s.latched small (legal.latched.0 has))) legal

clock_if : (b : Bool) (c d : ClockRegisters) → IsLegalClock c → IsLegalClock d → IsLegalClock (if b then c else d)
clock_if true c d first second = first
clock_if false c d first second = second

day_legal : (c : ClockRegisters) → IsLegalClock c → IsDayLegal c
day_legal c legal = (legal.day_low, legal.day_high, legal.unused)

-- the registers below the day
abbrev SameTime : ClockRegisters → ClockRegisters → Type 0
SameTime c d = (d.seconds ≡ c.seconds) × (d.minutes ≡ c.minutes) × (d.hours ≡ c.hours)

same_time_if : (b : Bool) (c d e : ClockRegisters) → SameTime c d → SameTime c e → SameTime c (if b then d else e)
same_time_if true c d e first second = first
same_time_if false c d e first second = second

next_day-legal : (c : ClockRegisters) → IsLegalClock c → IsLegalClock (next_day c)
next_day-legal c legal =
    let days = day_stays c (day_legal c legal) in
    let time : SameTime c (next_day c) = same_time_if (day_of c == 511) c _ _ (refl, refl, refl) (refl, refl, refl) in record {
      seconds = omega (arith, time.0, legal.seconds);
      minutes = omega (arith, time.1, legal.minutes);
      hours = omega (arith, time.2, legal.hours);
      day_low = days.0;
      day_high = days.1;
      unused = days.2;
    }

clock_second-legal : (c : ClockRegisters) → IsLegalClock c → IsLegalClock (clock_second c)
unfolding clock_second
clock_second-legal c legal =
    let zeroed : IsLegalClock (record c { seconds = 0; minutes = 0; hours = 0 }) = record { seconds = omega arith; minutes = omega arith; hours = omega arith; day_low = legal.day_low; day_high = legal.day_high; unused = legal.unused } in
    let hour : IsLegalClock (record c { seconds = 0; minutes = 0; hours = (c.hours + 1) % 32 }) = record { seconds = omega arith; minutes = omega arith; hours = omega arith; day_low = legal.day_low; day_high = legal.day_high; unused = legal.unused } in
    let minute : IsLegalClock (record c { seconds = 0; minutes = (c.minutes + 1) % 64 }) = record { seconds = omega arith; minutes = omega arith; hours = legal.hours; day_low = legal.day_low; day_high = legal.day_high; unused = legal.unused } in
    let second : IsLegalClock (record c { seconds = (c.seconds + 1) % 64 }) = record { seconds = omega arith; minutes = legal.minutes; hours = legal.hours; day_low = legal.day_low; day_high = legal.day_high; unused = legal.unused } in
    clock_if (halt_of c == 1) _ _ legal
    (clock_if (c.seconds == 59) _ _ (clock_if (c.minutes == 59) _ _ (clock_if (c.hours == 23) _ _ (next_day-legal _ zeroed) hour) minute) second)

pub seconds-legal : (k : Controller) (rumble : Bool) (n : ℕ) (s : BanksState) → has_clock k ≡ true → IsLegalBanks k rumble s → IsLegalBanks k rumble (record s { clock = iterate clock_second n s.clock })
seconds-legal k rumble n s has legal =
    with_clocks k rumble (iterate clock_second n s.clock) s.latched s
    (clock_of k _ has (iterate-keeps IsLegalClock clock_second clock_second-legal n s.clock (legal.clock.0 has))) legal.latched legal

pub seconds_of_clock : (n : ℕ) (b : CartridgeState) → has_clock b.state.kind ≡ true → iterate second n b ≡ record b { state = record b.state { clock = iterate clock_second n b.state.clock } }
unfolding second
seconds_of_clock zero b has = refl
seconds_of_clock (suc n) b has =
    let next : CartridgeState = record b { state = record b.state { clock = clock_second b.state.clock } } in
    ap (iterate second n) (ap (λ v. cond v next b) has) ∙ seconds_of_clock n next has

pub seconds_without_clock : (n : ℕ) (b : CartridgeState) → has_clock b.state.kind ≡ false → iterate second n b ≡ b
unfolding second
seconds_without_clock n b none =
    let next : CartridgeState = record b { state = record b.state { clock = clock_second b.state.clock } } in
    iterate-still second b (ap (λ v. cond v next b) none) n

-- ---- power-on

zero_clock : (k : Controller) → IsClockOf k clock_at_power_on
zero_clock k = (λ e. record { seconds = omega arith; minutes = omega arith; hours = omega arith; day_low = omega arith; day_high = omega arith; unused = omega arith }, λ e. refl)

first_bank : (k : Controller) → (first_rom_bank k ≤ rom_bank_at_power_on k) × (rom_bank_at_power_on k ≤ last_rom_bank k)
first_bank NoMbc = (lit≤ tt, lit≤ tt)
first_bank Mbc1 = (lit≤ tt, lit≤ tt)
first_bank Mbc2 = (lit≤ tt, lit≤ tt)
first_bank Mbc3 = (lit≤ tt, lit≤ tt)
first_bank Mbc3Clock = (lit≤ tt, lit≤ tt)
first_bank Mbc5 = (lit≤ tt, lit≤ tt)

pub power_on-legal : (k : Controller) (rumble : Bool) → IsLegalBanks k rumble (state_at_power_on k)
power_on-legal k rumble = record {
  kind = refl;
  enable = λ e. refl;
  first = (first_bank k).0;
  last = (first_bank k).1;
  ram_bank = omega arith;
  mode = λ e. refl;
  clock = zero_clock k;
  latched = zero_clock k;
}

-- ---- RAM

whole_set : (ram : List ℕ) (i value : ℕ) → length ram ≡ 8192 * (length ram / 8192) → length (set ram i value) ≡ 8192 * (length (set ram i value) / 8192)
whole_set ram i value whole = simp length-set whole

pub ram_set-legal : (k : Controller) (ram : List ℕ) (i value : ℕ) → (k ≡ Mbc2 → value < 16) → IsLegalRam k ram → IsLegalRam k (set ram i value)
ram_set-legal NoMbc ram i value small legal = whole_set ram i value legal
ram_set-legal Mbc1 ram i value small legal = whole_set ram i value legal
ram_set-legal Mbc2 ram i value small legal = (simp length-set legal.0, All-set (λ v. v < 16) ram i value (small refl) legal.1)
ram_set-legal Mbc3 ram i value small legal = whole_set ram i value legal
ram_set-legal Mbc3Clock ram i value small legal = whole_set ram i value legal
ram_set-legal Mbc5 ram i value small legal = whole_set ram i value legal

-- ---- the code's own fields

-- they follow the registers
pub sound-with_state : (b : CartridgeState) (s : BanksState) (low high n m bank bank' ram : ℕ) (w : Window) → IsLegalCartridge b → IsLegalBanks b.state.kind b.rumble s
    → n ≡ length b.rom → bank ≡ low_bank_of s.kind s → low ≡ rom_bank_start n bank
    → m ≡ length b.rom → bank' ≡ high_bank_of s.kind s → high ≡ rom_bank_start m bank'
    → ram ≡ length b.ram → w ≡ window_of ram s
    → IsConsistent (record b { state = s }) low high w
unfolding low_start high_start
sound-with_state b s low high n m bank bank' ram w legal new rom is_low at_low rom' is_high at_high is_ram at_window = record {
  legal = record {
    rom = legal.rom;
    least = legal.least;
    ram = let P : Controller → Type 0 = λ k. IsLegalRam k b.ram in subst P (sym new.kind) legal.ram;
    state = let P : Controller → Type 0 = λ k. IsLegalBanks k b.rumble s in subst P (sym new.kind) new;
  };
  at_low = at_low ∙ (ap (λ v. rom_bank_start v bank) rom ∙ ap (rom_bank_start (length b.rom)) is_low);
  at_high = at_high ∙ (ap (λ v. rom_bank_start v bank') rom' ∙ ap (rom_bank_start (length b.rom)) is_high);
  at_window = at_window ∙ ap (λ v. window_of v s) is_ram;
}

-- they stay where the RAM keeps its length
pub sound-with_ram : (b : CartridgeState) (ram : List ℕ) (low high : ℕ) (w : Window) → IsConsistent b low high w → length ram ≡ length b.ram → IsLegalRam b.state.kind ram → IsConsistent (record b { ram = ram }) low high w
sound-with_ram b ram low high w sound same legal = record {
  legal = record { rom = sound.legal.rom; least = sound.legal.least; ram = legal; state = sound.legal.state };
  at_low = sound.at_low;
  at_high = sound.at_high;
  at_window = sound.at_window ∙ ap (λ v. window_of v b.state) (sym same);
}

-- ---- a cartridge at power-on

pub accepted_whole : (image : List ℕ) → IsAccepted image → length image ≡ 16384 * (length image / 16384)
accepted_whole image is = omega (arith, is.length.1)

abbrev Whole : ℕ → Type 0
Whole n = n ≡ 8192 * (n / 8192)

whole_if : (b : Bool) (o p : Option ℕ) → Whole (unwrap_or o 0) → Whole (unwrap_or p 0) → Whole (unwrap_or (if b then o else p) 0)
whole_if true o p first second = first
whole_if false o p first second = second

coded_whole : (code : ℕ) → Whole (unwrap_or (coded_ram code) 0)
coded_whole code =
    whole_if (code == 0x00) _ _ refl (whole_if (code == 0x02) _ _ refl (whole_if (code == 0x03) _ _ refl
    (whole_if (code == 0x04) _ _ refl (whole_if (code == 0x05) _ _ refl refl))))

whole_zeros : (n : ℕ) → Whole n → Whole (length {A = ℕ} (replicate n 0))
whole_zeros n whole = subst Whole (sym (length-replicate n 0)) whole

ram_zeros : (k : Controller) (code : ℕ) → IsLegalRam k (replicate (unwrap_or (ram_of k code) 0) 0)
ram_zeros NoMbc code = whole_zeros _ (coded_whole code)
ram_zeros Mbc1 code = whole_zeros _ (coded_whole code)
ram_zeros Mbc2 code = (length-replicate {A = ℕ} 512 0, All-replicate (λ v. v < 16) 512 0 (omega arith))
ram_zeros Mbc3 code = whole_zeros _ (coded_whole code)
ram_zeros Mbc3Clock code = whole_zeros _ (coded_whole code)
ram_zeros Mbc5 code = whole_zeros _ (coded_whole code)

pub ram_at_power_on : (image : List ℕ) (k : Controller) → controller_of image ≡ Some k → IsLegalRam k (replicate (ram_length_of image) 0)
ram_at_power_on image k known =
    let P : Option Controller → Type 0 = λ c. IsLegalRam k (replicate (unwrap_or (option_and_then (λ j. ram_of j (ram_code_of image)) c) 0) 0) in
    subst P (sym known) (ram_zeros k (ram_code_of image))

pub sound_at_power_on : (rom ram : List ℕ) (rumble : Bool) (k : Controller) (s : BanksState) (low high n m bank bank' r : ℕ) (w : Window)
    → length rom ≡ 16384 * (length rom / 16384) → 32768 ≤ length rom → IsLegalRam k ram → s ≡ state_at_power_on k
    → n ≡ length rom → bank ≡ low_bank_of s.kind s → low ≡ rom_bank_start n bank
    → m ≡ length rom → bank' ≡ high_bank_of s.kind s → high ≡ rom_bank_start m bank'
    → r ≡ length ram → w ≡ window_of r s
    → IsConsistent (record { rom = rom; ram = ram; rumble = rumble; state = s }) low high w
sound_at_power_on rom ram rumble k s low high n m bank bank' r w whole least legal first is_n is_low at_low is_m is_high at_high is_r at_window =
    let begins : CartridgeState = record { rom = rom; ram = ram; rumble = rumble; state = state_at_power_on k } in
    let value : IsLegalCartridge begins = record { rom = whole; least = least; ram = legal; state = power_on-legal k rumble } in
    let new : IsLegalBanks k rumble s = let P : BanksState → Type 0 = λ t. IsLegalBanks k rumble t in subst P (sym first) (power_on-legal k rumble) in
    sound-with_state begins s low high n m bank bank' r w value new is_n is_low at_low is_m is_high at_high is_r at_window
