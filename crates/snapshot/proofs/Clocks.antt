-- The registers of a clock, or zeros where a kind has none.
use Rattle.std.proofs.Common.{◌≡◌, ℕ, ◌%◌, ◌<◌, ◌≤◌, Bool, true, false, eqb, nat_lt, cond, refl, sym, ◌∙◌, arith}
use Rattle.std.specs.Prelude.{bit_and}
use Rattle.std.proofs.lemmas.Bool.{eqb-true}
use Rattle.std.proofs.lemmas.Bool.Decides.{nat_tests}
use Rattle.bank_controllers.specs.declared.clock.ClockRegisters.{ClockRegisters}
use Rattle.bank_controllers.specs.Clock.{IsLegalClock, clock_at_power_on}
use Rattle.snapshot.proofs.Bytes.{numbers_at, day_high_is}

-- the ranges of a clock's fields in a snapshot
pub record IsWithin (b : Bool) (c : ClockRegisters) : Type 0 where
  pub seconds : c.seconds ≤ cond b 63 0
  pub minutes : c.minutes ≤ cond b 63 0
  pub hours : c.hours ≤ cond b 31 0
  pub day_low : c.day_low ≤ cond b 255 0
  pub day_high : eqb (bit_and c.day_high (cond b 0xC1 0)) c.day_high ≡ true

no_bits : (n : ℕ) → n < 256 → bit_and n 0 ≡ 0
no_bits n h = numbers_at (λ n. bit_and n 0) (λ _. 0) refl n h

differ : (b : Bool) → b ≡ true → b ≡ false → ⊥
differ b t f = cc

clock_of_zeros : (c : ClockRegisters) → c.seconds ≡ 0 → c.minutes ≡ 0 → c.hours ≡ 0 → c.day_low ≡ 0 → c.day_high ≡ 0 → c ≡ clock_at_power_on
clock_of_zeros c s m h l d = rw (s, m, h, l, d) refl

pub clock_within : (b : Bool) (c : ClockRegisters) → (b ≡ true → IsLegalClock c) × (b ≡ false → c ≡ clock_at_power_on) → IsWithin b c
clock_within true c h =
    let legal = h.0 refl in
    let high : eqb (bit_and c.day_high 0xC1) c.day_high ≡ true = day_high_is c.day_high legal.day_high ∙ (let u = legal.unused in grind (arith, nat_tests)) in
    record {
      seconds = omega (arith, legal.seconds);
      minutes = omega (arith, legal.minutes);
      hours = omega (arith, legal.hours);
      day_low = omega (arith, legal.day_low);
      day_high = high;
    }
clock_within false c h =
    let e : c ≡ clock_at_power_on = h.1 refl in
    rw e (record { seconds = omega arith; minutes = omega arith; hours = omega arith; day_low = omega arith; day_high = refl })

pub clock_legal : (b : Bool) (c : ClockRegisters) → c.day_high < 256 → IsWithin b c → (b ≡ true → IsLegalClock c) × (b ≡ false → c ≡ clock_at_power_on)
clock_legal true c fit h =
    let test : nat_lt (c.day_high % 64) 2 ≡ true = sym (day_high_is c.day_high fit) ∙ h.day_high in (
      λ _. record {
        seconds = omega (arith, h.seconds);
        minutes = omega (arith, h.minutes);
        hours = omega (arith, h.hours);
        day_low = omega (arith, h.day_low);
        day_high = fit;
        unused = grind (arith, nat_tests);
      },
      λ e. absurd (differ true refl e),
    )
clock_legal false c fit h =
    let zero : c.day_high ≡ 0 = sym (eqb-true _ _ h.day_high) ∙ no_bits c.day_high fit in (
      λ e. absurd (differ false e refl),
      λ _. clock_of_zeros c (omega (arith, h.seconds)) (omega (arith, h.minutes)) (omega (arith, h.hours)) (omega (arith, h.day_low)) zero,
    )
