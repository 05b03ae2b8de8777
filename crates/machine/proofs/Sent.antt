-- What a step sends.
use Rattle.std.proofs.Common.{◌≡◌, ℕ, zero, suc, ◌+◌, ◌*◌, ◌<◌, ◌≤◌, ◌++◌, List, [], ◌∷◌, Bool, true, false, cond, eqb, ltb, refl, sym, subst, ap, ◌∙◌, arith, inl, inr}
use Rattle.std.specs.Prelude.{◌⊎◌, ◌==◌, nat_lt, if◌then◌else◌}
use Rattle.std.specs.Fn.{iterate}
use Rattle.std.proofs.lemmas.Bool.Decides.{nat_tests}
use Rattle.timer_unit.specs.declared.serial.SerialState.{SerialState}
use Rattle.timer_unit.specs.Serial.{SerialAndRequest, sc_bits, tick as serial_tick, unrequested}
use Rattle.memory_map.specs.declared.place.Place.{Place}
use Rattle.memory_map.specs.declared.place.Place.TheVariants.{Cartridge, Vram, Wram, Oam, Unused, Sound, Register, Hram, InterruptEnable}
use Rattle.memory_map.specs.Map.{place}
use Rattle.memory_map.specs.State.{BusState}
use Rattle.memory_map.specs.Bus.{is_closed, stored_at, register_written, written, acknowledged}
use Rattle.memory_map.specs.BusRules.{bus_rules}
use Rattle.memory_map.specs.Ticks.{tick}
use Rattle.sm83_processor.specs.Steps.{step_of}
use Rattle.sm83_processor.specs.declared.processor.Processor.{Processor}
use Rattle.sm83_processor.proofs.KeptBySteps.{IsKept, by_step}
use Rattle.sm83_processor.proofs.StepCycles.{step-bounds}
use Rattle.machine.specs.Sent.{sent_in, sent_in_cycle, sent_in_cycles, sent_in_step, serial_at_accesses, untimed}
use Rattle.machine.specs.Watching.{IsFar, IsSilent}
use Rattle.machine.proofs.StepParts.{step_parts}

-- ---- the M-cycles of a step at once

abbrev sent_at_once : ℕ → SerialState → List ℕ
sent_at_once n s = cond (eqb s.cycles_left 0) [] (cond (ltb n s.cycles_left) [] (s.sb ∷ []))

first_and_rest : (n : ℕ) (s : SerialState) → sent_in_cycle s ++ sent_at_once n (serial_tick (unrequested s)).serial ≡ sent_at_once (suc n) s
first_and_rest n s = grind (arith, nat_tests)

none_at_once : (s : SerialState) → sent_at_once zero s ≡ []
none_at_once s = grind (arith, nat_tests)

pub by_one : (n : ℕ) (s : SerialState) → sent_in_cycles n s ≡ sent_at_once n s
unfolding sent_in_cycles
by_one zero s = sym (none_at_once s)
by_one (suc n) s =
    ap (λ (rest : List ℕ). sent_in_cycle s ++ rest) (by_one n (serial_tick (unrequested s)).serial) ∙ first_and_rest n s

pub none_in_cycles : (n : ℕ) (s : SerialState) → (s.cycles_left ≡ 0) ⊎ (n < s.cycles_left) → sent_in_cycles n s ≡ []
none_in_cycles n s (inl none) = by_one n s ∙ grind (arith, nat_tests)
none_in_cycles n s (inr more) = by_one n s ∙ grind (arith, nat_tests)

pub last_in_cycles : (n : ℕ) (s : SerialState) → 0 < s.cycles_left → s.cycles_left ≤ n → sent_in_cycles n s ≡ s.sb ∷ []
last_in_cycles n s some le = by_one n s ∙ grind (arith, nat_tests)

-- ---- no access brings the end of a transfer near

abbrev left_of : BusState → ℕ
left_of b = b.serial.serial.cycles_left

-- no transfer ends in so many M-cycles, where `left` of one are left
abbrev IsBeyond : ℕ → ℕ → Type 0
IsBeyond cycles left = (left ≡ 0) ⊎ (cycles < left)

-- so many M-cycles, which are fewer than a transfer takes
module _ (n : ℕ) (few : n < 1024) where
  beyond_if : (b : Bool) (x y : BusState) → IsBeyond n (left_of x) → IsBeyond n (left_of y) → IsBeyond n (left_of (if b then x else y))
  beyond_if true x y first second = first
  beyond_if false x y first second = second

  begun_is_beyond : (b : Bool) → IsBeyond n (if b then 1024 else 0)
  begun_is_beyond true = inr few
  begun_is_beyond false = inl refl

  register_beyond : (a v : ℕ) (b : BusState) → IsBeyond n (left_of b) → IsBeyond n (left_of (register_written a v b))
  unfolding register_written
  register_beyond a v b far =
      beyond_if (a == 0xFF00) _ _ far
      (beyond_if (a == 0xFF01) _ _ far
      (beyond_if (a == 0xFF02) _ _ (begun_is_beyond (sc_bits v == 0x81))
      (beyond_if (a == 0xFF04) _ _ far
      (beyond_if (a == 0xFF05) _ _ far
      (beyond_if (a == 0xFF06) _ _ far
      (beyond_if (a == 0xFF07) _ _ far
      (beyond_if (a == 0xFF0F) _ _ far
      (beyond_if (a == 0xFF46) _ _ far far))))))))

  stored_beyond : (p : Place) (v : ℕ) (b : BusState) → IsBeyond n (left_of b) → IsBeyond n (left_of (stored_at p v b))
  stored_beyond (Cartridge a) v b far = far
  stored_beyond (Vram i) v b far = far
  stored_beyond (Wram i) v b far = far
  stored_beyond (Oam i) v b far = far
  stored_beyond Unused v b far = far
  stored_beyond (Sound i) v b far = far
  stored_beyond (Register a) v b far = register_beyond a v b far
  stored_beyond (Hram i) v b far = far
  stored_beyond InterruptEnable v b far = far

  written_beyond : (a v : ℕ) (b : BusState) → IsBeyond n (left_of b) → IsBeyond n (left_of (written a v b))
  unfolding written
  written_beyond a v b far = beyond_if (is_closed b (place a)) b (stored_at (place a) v b) far (stored_beyond (place a) v b far)

  acknowledged_beyond : (bit : ℕ) (b : BusState) → IsBeyond n (left_of b) → IsBeyond n (left_of (acknowledged bit b))
  acknowledged_beyond bit b far =
      beyond_if (bit == 0) _ _ far
      (beyond_if (bit == 1) _ _ far
      (beyond_if (bit == 2) _ _ far
      (beyond_if (bit == 3) _ _ far
      (beyond_if (bit == 4) _ _ far far))))

  abbrev StaysBeyond : BusState → BusState → Type 0
  StaysBeyond old new = IsBeyond n (left_of old) → IsBeyond n (left_of new)

  accesses_keep : IsKept (untimed bus_rules) StaysBeyond
  accesses_keep = record {
    itself = λ b far. far;
    follows = λ a b c first second far. second (first far);
    written = λ b address value. written_beyond address value b;
    acknowledged = λ b bit. acknowledged_beyond bit b;
    passed = λ b n far. far;
  }

  by_accesses : (p : Processor BusState) → IsBeyond n (left_of p.memory) → IsBeyond n (serial_at_accesses p).cycles_left
  by_accesses p far = by_step (untimed bus_rules) StaysBeyond accesses_keep p far

fewer_beyond : (n more left : ℕ) → n ≤ more → IsBeyond more left → IsBeyond n left
fewer_beyond n more left few (inl none) = inl none
fewer_beyond n more left few (inr far) = inr (omega (arith, few, far))

pub nothing_is_sent : (p : Processor BusState) → IsFar p.memory.serial.serial.cycles_left → sent_in_step p ≡ []
nothing_is_sent p far =
    none_in_cycles (step_of bus_rules p).stepped.cycles (serial_at_accesses p)
    (fewer_beyond _ 6 _ (step-bounds bus_rules p).few (by_accesses 6 (omega arith) p far))

-- ---- M-cycles begin no transfer

idle_tick : (s : SerialAndRequest) → s.serial.cycles_left ≡ 0 → serial_tick s ≡ s
idle_tick s e = grind (arith, nat_tests)

serial_if : (s : SerialAndRequest) (b : Bool) (x y : BusState) → x.serial ≡ s → y.serial ≡ s → (if b then x else y).serial ≡ s
serial_if s true x y first second = first
serial_if s false x y first second = second

serial_of_tick : (b : BusState) → (tick b).serial ≡ serial_tick b.serial
serial_of_tick b = serial_if (serial_tick b.serial) (nat_lt b.control.dma_copied 160) _ _ refl refl

one_less : (n : ℕ) (s : SerialAndRequest) → suc n < s.serial.cycles_left → n < (serial_tick s).serial.cycles_left
one_less n s far = grind (arith, nat_tests)

silent_tick : (b : BusState) → IsSilent b → IsSilent (tick b)
silent_tick b none =
    ap (λ (s : SerialAndRequest). s.serial.cycles_left) (serial_of_tick b ∙ idle_tick b.serial none) ∙ none

pub stays_silent : (n : ℕ) (b : BusState) → IsSilent b → IsSilent (iterate tick n b)
stays_silent zero b none = none
stays_silent (suc n) b none = stays_silent n (tick b) (silent_tick b none)

-- ---- steps that send nothing

idle_or_on : (n : ℕ) (b : BusState) → IsBeyond (suc n) (left_of b) → IsBeyond n (left_of (tick b))
idle_or_on n b (inl none) = inl (silent_tick b none)
idle_or_on n b (inr far) = inr (rw (serial_of_tick b) (one_less n b.serial far))

by_cycles : (k n : ℕ) (b : BusState) → IsBeyond (k + n) (left_of b) → IsBeyond n (left_of (iterate tick k b))
by_cycles zero n b far = fewer_beyond n (zero + n) (left_of b) (omega arith) far
by_cycles (suc k) n b far = by_cycles k n (tick b) (idle_or_on (k + n) b (fewer_beyond (suc (k + n)) (suc k + n) (left_of b) (omega arith) far))

by_whole_step : (n : ℕ) (p : Processor BusState) → 6 + n < 1024 → IsBeyond (6 + n) (left_of p.memory) → IsBeyond n (left_of (step_of bus_rules p).after.memory)
by_whole_step n p few far =
    let cycles = (step_of bus_rules p).stepped.cycles in
    let accesses = (step_of (untimed bus_rules) p).after in
    let bounds = step-bounds bus_rules p in
    subst (λ (q : Processor BusState). IsBeyond n (left_of q.memory)) (sym (step_parts bus_rules p).after)
    (by_cycles cycles n accesses.memory (fewer_beyond (cycles + n) (6 + n) (left_of accesses.memory) (omega (arith, bounds.few)) (by_accesses (6 + n) few p far)))

-- a transfer that a step begins takes 1,024 M-cycles, more than 170 steps
pub nothing_is_sent_in : (n : ℕ) (p : Processor BusState) → n ≤ 170 → (p.memory.serial.serial.cycles_left ≡ 0) ⊎ (6 * n < p.memory.serial.serial.cycles_left) → sent_in n p ≡ []
unfolding sent_in
nothing_is_sent_in zero p few far = refl
nothing_is_sent_in (suc n) p few far =
    let next = (step_of bus_rules p).after in
    let now : IsFar (left_of p.memory) = fewer_beyond 6 (6 * suc n) (left_of p.memory) (omega arith) far in
    let later = by_whole_step (6 * n) p (omega (arith, few)) (fewer_beyond (6 + 6 * n) (6 * suc n) (left_of p.memory) (omega arith) far) in
    ap (λ (bytes : List ℕ). bytes ++ sent_in n next) (nothing_is_sent p now) ∙ nothing_is_sent_in n next (omega (arith, few)) later
