-- n seconds at once, register by register.
use Rattle.std.proofs.Common.{◌≡◌, ℕ, zero, suc, ◌+◌, ◌-◌, ◌/◌, ◌%◌, ◌<◌, ◌≤◌, Bool, true, false, ltb, eqb, cond, refl, eq-eqb, ne_eqb, ◌*◌, ◌≢◌, sym, ap, ◌∙◌, add-zero, arith, inl, inr}
use Rattle.std.specs.Prelude.{◌⊎◌, nat_lt, if◌then◌else◌}
use Rattle.std.specs.Fn.{iterate}
use Rattle.std.proofs.lemmas.Bool.Decides.{nat_tests, eqb_tells}
use Rattle.std.proofs.lemmas.Bool.{cases_lt}
use Rattle.std.proofs.Math.Nat.{mod-eq_of_lt, div-eq_of_lt, mod-lt}
use Rattle.bank_controllers.specs.declared.clock.ClockRegisters.{ClockRegisters}
use Rattle.bank_controllers.specs.Clock.{next_day, next_hour, next_minute, next_second, clock_second, day_of, halt_of, carry_of, with_day}
use Rattle.bank_controllers.specs.ClockJump.{value_after, passed_on, days_after}
use Rattle.repeated_steps.proofs.Iterates.{iterate-closed}

-- how a register moves by one step
abbrev Moves : ℕ → ℕ → Type 0
Moves limit width = (v n : ℕ) → v < width →
    ((eqb v (limit - 1) ≡ true) × (value_after limit width v (suc n) ≡ value_after limit width 0 n) × (passed_on limit width v (suc n) ≡ suc (passed_on limit width 0 n)))
    ⊎ ((eqb v (limit - 1) ≡ false) × (value_after limit width v (suc n) ≡ value_after limit width ((v + 1) % width) n) × (passed_on limit width v (suc n) ≡ passed_on limit width ((v + 1) % width) n))

sixty : Moves 60 64
sixty v n h = grind (arith, nat_tests)

twenty_four : Moves 24 32
twenty_four v n h = grind (arith, nat_tests)

nothing_moves : (limit width v : ℕ) → 0 < limit → (v < limit) ⊎ (limit ≤ v) → v < width → (value_after limit width v 0 ≡ v) × (passed_on limit width v 0 ≡ 0)
nothing_moves limit width v pos (inl lt) h =
    let small : ltb v limit ≡ true = grind (arith, nat_tests) in
    let m : (v + 0) % limit ≡ v = rw add-zero (mod-eq_of_lt lt) in
    let d : (v + 0) / limit ≡ 0 = rw add-zero (div-eq_of_lt lt) in
    (rw (small, m) refl, rw (small, d) refl)
nothing_moves limit width v pos (inr le) h =
    let large : ltb v limit ≡ false = grind (arith, nat_tests) in
    let room : ltb 0 (width - v) ≡ true = grind (arith, nat_tests) in
    (rw (large, room) (omega arith), rw (large, room) refl)

-- A register of the clock, and the step to which it passes on.
record Wheel (limit width : ℕ) (carry step : ClockRegisters → ClockRegisters) : Type 0 where
  get : ClockRegisters → ℕ
  put : ℕ → ClockRegisters → ClockRegisters
  got : (v : ℕ) (c : ClockRegisters) → get (put v c) ≡ v
  put_twice : (v w : ℕ) (c : ClockRegisters) → put v (put w c) ≡ put v c
  put_back : (c : ClockRegisters) → put (get c) c ≡ c
  carry_put : (v : ℕ) (c : ClockRegisters) → carry (put v c) ≡ put v (carry c)
  steps : (c : ClockRegisters) → step c ≡ cond (eqb (get c) (limit - 1)) (carry (put 0 c)) (put ((get c + 1) % width) c)
  moves : Moves limit width
  sizes : (0 < limit) × (0 < width)

module _ (limit width : ℕ) (carry step : ClockRegisters → ClockRegisters) (wheel : Wheel limit width carry step) where
  abbrev turned : ℕ → ClockRegisters → ClockRegisters
  turned n c = iterate carry (passed_on limit width (wheel.get c) n) (wheel.put (value_after limit width (wheel.get c) n) c)

  turned-zero : (c : ClockRegisters) → wheel.get c < width → turned zero c ≡ c
  turned-zero c h =
      let e = nothing_moves limit width (wheel.get c) wheel.sizes.0 (cases_lt (wheel.get c) limit) h in
      rw (e.0, e.1) (wheel.put_back c)

  after_carry : (v n : ℕ) (c : ClockRegisters) → turned n (carry (wheel.put 0 c)) ≡ iterate carry (suc (passed_on limit width 0 n)) (wheel.put (value_after limit width 0 n) c)
  after_carry v n c =
      let there : wheel.get (carry (wheel.put 0 c)) ≡ 0 = ap wheel.get (wheel.carry_put 0 c) ∙ wheel.got 0 (carry c) in
      let x = value_after limit width 0 n in
      let same : wheel.put x (carry (wheel.put 0 c)) ≡ carry (wheel.put x c) = sym (wheel.carry_put x (wheel.put 0 c)) ∙ ap carry (wheel.put_twice x 0 c) in
      rw (there, same) refl

  turned-suc : (n : ℕ) (c : ClockRegisters) → wheel.get c < width → turned (suc n) c ≡ turned n (step c)
  turned-suc n c h =
      elim (wheel.moves (wheel.get c) n h) [
        | inl m ↦
            let goes : step c ≡ carry (wheel.put 0 c) = wheel.steps c ∙ ap (λ b. cond b (carry (wheel.put 0 c)) (wheel.put ((wheel.get c + 1) % width) c)) m.0 in
            rw (m.1, m.2, goes) (sym (after_carry 0 n c))
        | inr m ↦
            let goes : step c ≡ wheel.put ((wheel.get c + 1) % width) c = wheel.steps c ∙ ap (λ b. cond b (carry (wheel.put 0 c)) (wheel.put ((wheel.get c + 1) % width) c)) m.0 in
            rw (m.1, m.2, goes, wheel.got, wheel.put_twice) refl
      ]

  stays_in : (c : ClockRegisters) → wheel.get c < width → wheel.get (step c) < width
  stays_in c h =
      elim (wheel.moves (wheel.get c) 0 h) [
        | inl m ↦
            let goes : step c ≡ carry (wheel.put 0 c) = wheel.steps c ∙ ap (λ b. cond b (carry (wheel.put 0 c)) (wheel.put ((wheel.get c + 1) % width) c)) m.0 in
            rw (goes, wheel.carry_put 0 c, wheel.got 0 (carry c)) wheel.sizes.1
        | inr m ↦
            let goes : step c ≡ wheel.put ((wheel.get c + 1) % width) c = wheel.steps c ∙ ap (λ b. cond b (carry (wheel.put 0 c)) (wheel.put ((wheel.get c + 1) % width) c)) m.0 in
            rw (goes, wheel.got) (mod-lt (wheel.get c + 1) wheel.sizes.1)
      ]

  steps_by_turning : (n : ℕ) (c : ClockRegisters) → wheel.get c < width → iterate step n c ≡ turned n c
  steps_by_turning n c h = iterate-closed (λ (c : ClockRegisters). wheel.get c < width) step turned stays_in turned-zero turned-suc n c h

seconds : Wheel 60 64 next_minute next_second
seconds = record {
  get = λ c. c.seconds;
  put = λ v c. record c { seconds = v };
  got = λ v c. refl;
  put_twice = λ v w c. refl;
  put_back = λ c. refl;
  carry_put = λ v c. grind (arith, nat_tests);
  steps = λ c. refl;
  moves = sixty;
  sizes = (omega arith, omega arith);
}

minutes : Wheel 60 64 next_hour next_minute
minutes = record {
  get = λ c. c.minutes;
  put = λ v c. record c { minutes = v };
  got = λ v c. refl;
  put_twice = λ v w c. refl;
  put_back = λ c. refl;
  carry_put = λ v c. grind (arith, nat_tests);
  steps = λ c. refl;
  moves = sixty;
  sizes = (omega arith, omega arith);
}

hours : Wheel 24 32 next_day next_hour
hours = record {
  get = λ c. c.hours;
  put = λ v c. record c { hours = v };
  got = λ v c. refl;
  put_twice = λ v w c. refl;
  put_back = λ c. refl;
  carry_put = λ v c. grind (arith, nat_tests);
  steps = λ c. refl;
  moves = twenty_four;
  sizes = (omega arith, omega arith);
}

pub seconds_by_turning : (n : ℕ) (c : ClockRegisters) → c.seconds < 64 → iterate next_second n c ≡ iterate next_minute (passed_on 60 64 c.seconds n) (record c { seconds = value_after 60 64 c.seconds n })
unfolding seconds
seconds_by_turning n c h = steps_by_turning 60 64 next_minute next_second seconds n c h

pub minutes_by_turning : (n : ℕ) (c : ClockRegisters) → c.minutes < 64 → iterate next_minute n c ≡ iterate next_hour (passed_on 60 64 c.minutes n) (record c { minutes = value_after 60 64 c.minutes n })
unfolding minutes
minutes_by_turning n c h = steps_by_turning 60 64 next_hour next_minute minutes n c h

pub hours_by_turning : (n : ℕ) (c : ClockRegisters) → c.hours < 32 → iterate next_hour n c ≡ iterate next_day (passed_on 24 32 c.hours n) (record c { hours = value_after 24 32 c.hours n })
unfolding hours
hours_by_turning n c h = steps_by_turning 24 32 next_day next_hour hours n c h

-- ---- days

-- what is known of the day and its flags
abbrev pub IsDayLegal : ClockRegisters → Type 0
IsDayLegal c = (c.day_low < 256) × (c.day_high < 256) × (c.day_high % 64 < 2)

day_within : (c : ClockRegisters) → IsDayLegal c → day_of c < 512
day_within c h = omega (arith, h.0)

carry_within : (c : ClockRegisters) → IsDayLegal c → carry_of c < 2
carry_within c h = omega (arith, h.1)

day_of-with_day : (d k : ℕ) (c : ClockRegisters) → d < 512 → day_of (with_day d k c) ≡ d
day_of-with_day d k c h = omega arith

halt_of-with_day : (d k : ℕ) (c : ClockRegisters) → d < 512 → halt_of (with_day d k c) ≡ halt_of c
halt_of-with_day d k c h = omega arith

carry_of-with_day : (d k : ℕ) (c : ClockRegisters) → d < 512 → carry_of (with_day d k c) ≡ k
carry_of-with_day d k c h = omega arith

with_day-legal : (d k : ℕ) (c : ClockRegisters) → d < 512 → k < 2 → IsDayLegal (with_day d k c)
with_day-legal d k c h small = (omega arith, omega arith, omega arith)

with_day-twice : (d k e j : ℕ) (c : ClockRegisters) → e < 512 → with_day d k (with_day e j c) ≡ with_day d k c
with_day-twice d k e j c h = rw (halt_of-with_day e j c h) refl

with_day-same : (c : ClockRegisters) → IsDayLegal c → with_day (day_of c) (carry_of c) c ≡ c
with_day-same c h =
    let low : day_of c % 256 ≡ c.day_low = omega (arith, h.0) in
    let high : 128 * carry_of c + 64 * halt_of c + day_of c / 256 ≡ c.day_high = omega (arith, h.0, h.1, h.2) in
    rw (low, high) refl

after-with_day : (n d k : ℕ) (c : ClockRegisters) → d < 512 → days_after n (with_day d k c) ≡ with_day ((d + n) % 512) (if nat_lt (d + n) 512 then k else 1) c
after-with_day n d k c h = rw (day_of-with_day d k c h, carry_of-with_day d k c h) (with_day-twice _ _ d k c h)

-- the day grows, or is past its end
day_cases : (c : ClockRegisters) → ((day_of c ≡ 511) × (next_day c ≡ with_day 0 1 c)) ⊎ ((day_of c ≢ 511) × (next_day c ≡ with_day (day_of c + 1) (carry_of c) c))
day_cases c =
    elim (eqb_tells (day_of c) 511) [
      | inl last ↦ inl (last.1, rw last.0 refl)
      | inr more ↦ inr (more.1, rw more.0 refl)
    ]

days-zero : (c : ClockRegisters) → IsDayLegal c → days_after zero c ≡ c
days-zero c h =
    let within = day_within c h in
    let day : (day_of c + 0) % 512 ≡ day_of c = omega (arith, within) in
    let small : nat_lt (day_of c + 0) 512 ≡ true = grind (arith, nat_tests, within) in
    rw (day, small) (with_day-same c h)

one_way : (b : Bool) (k : ℕ) → (if b then k else k) ≡ k
one_way true k = refl
one_way false k = refl

days-suc : (n : ℕ) (c : ClockRegisters) → IsDayLegal c → days_after (suc n) c ≡ days_after n (next_day c)
days-suc n c h =
    let within = day_within c h in
    elim (day_cases c) [
      | inl last ↦
          let day : (day_of c + suc n) % 512 ≡ (0 + n) % 512 = omega (arith, last.0) in
          let large : nat_lt (day_of c + suc n) 512 ≡ false = grind (arith, nat_tests, last.0) in
          let first : 0 < 512 = omega arith in
          rw (last.1, after-with_day n 0 1 c first, day, large, one_way (nat_lt (0 + n) 512) 1) refl
      | inr more ↦
          let next : day_of c + 1 < 512 = omega (arith, within, more.0) in
          let same : day_of c + suc n ≡ day_of c + 1 + n = omega arith in
          rw (more.1, after-with_day n (day_of c + 1) (carry_of c) c next, same) refl
    ]

pub day_stays : (c : ClockRegisters) → IsDayLegal c → IsDayLegal (next_day c)
day_stays c h =
    let within = day_within c h in
    elim (day_cases c) [
      | inl last ↦
          let first : 0 < 512 = omega arith in
          let one : 1 < 2 = omega arith in
          rw last.1 (with_day-legal 0 1 c first one)
      | inr more ↦
          let next : day_of c + 1 < 512 = omega (arith, within, more.0) in
          rw more.1 (with_day-legal (day_of c + 1) (carry_of c) c next (carry_within c h))
    ]

pub days_by_jump : (n : ℕ) (c : ClockRegisters) → c.day_low < 256 → c.day_high < 256 → c.day_high % 64 < 2 → iterate next_day n c ≡ days_after n c
days_by_jump n c low high unused = iterate-closed IsDayLegal next_day days_after day_stays days-zero days-suc n c (low, high, unused)

-- ---- halting

pub halted_stays : (n : ℕ) (c : ClockRegisters) → halt_of c ≡ 1 → iterate clock_second n c ≡ c
unfolding clock_second
halted_stays zero c h = refl
halted_stays (suc n) c h =
    let halted : eqb (halt_of c) 1 ≡ true = eq-eqb (halt_of c) 1 h in
    ap (iterate clock_second n) (ap (λ b. cond b c (next_second c)) halted) ∙ halted_stays n c h

halt_of-next_day : (c : ClockRegisters) → IsDayLegal c → halt_of (next_day c) ≡ halt_of c
halt_of-next_day c h =
    let within = day_within c h in
    elim (day_cases c) [
      | inl last ↦
          let first : 0 < 512 = omega arith in
          ap halt_of last.1 ∙ halt_of-with_day 0 1 c first
      | inr more ↦
          let next : day_of c + 1 < 512 = omega (arith, within, more.0) in
          ap halt_of more.1 ∙ halt_of-with_day (day_of c + 1) (carry_of c) c next
    ]

-- a second changes the day or leaves it
abbrev Moved : ClockRegisters → ClockRegisters → Type 0
Moved c d = IsDayLegal d × (halt_of d ≡ halt_of c)

day_moved : (c : ClockRegisters) → IsDayLegal c → Moved c (next_day c)
day_moved c h = (day_stays c h, halt_of-next_day c h)

one_of : (b : Bool) (c d e : ClockRegisters) → Moved c d → Moved c e → Moved c (cond b d e)
one_of true c d e first second = first
one_of false c d e first second = second

second_moved : (c : ClockRegisters) → IsDayLegal c → Moved c (next_second c)
second_moved c h =
    let same : Moved c c = (h, refl) in
    one_of (eqb c.seconds 59) c _ _ (one_of (eqb c.minutes 59) c _ _ (one_of (eqb c.hours 23) c _ _ (day_moved (record c { seconds = 0; minutes = 0; hours = 0 }) h) same) same) same

runs_legal : (n : ℕ) (c : ClockRegisters) → IsDayLegal c → halt_of c ≢ 1 → iterate clock_second n c ≡ iterate next_second n c
unfolding clock_second
runs_legal zero c h goes = refl
runs_legal (suc n) c h goes =
    let halted : eqb (halt_of c) 1 ≡ false = ne_eqb (halt_of c) 1 goes in
    let moved = second_moved c h in
    ap (iterate clock_second n) (ap (λ b. cond b c (next_second c)) halted) ∙ runs_legal n (next_second c) moved.0 (λ stops. goes (sym moved.1 ∙ stops))

pub runs : (n : ℕ) (c : ClockRegisters) → c.day_low < 256 → c.day_high < 256 → c.day_high % 64 < 2 → halt_of c ≢ 1 → iterate clock_second n c ≡ iterate next_second n c
runs n c low high unused goes = runs_legal n c (low, high, unused) goes

pub ruleset clock_runs = (runs, halted_stays, seconds_by_turning)
