-- A serial port after n M-cycles, by comparison.
use Rattle.std.proofs.Common.{◌≡◌, ℕ, zero, suc, ◌-◌, ◌%◌, ◌<◌, true, ltb, eqb, cond, ap, ◌∙◌, arith}
use Rattle.std.specs.Prelude.{Some, None}
use Rattle.std.specs.Fn.{iterate}
use Rattle.std.proofs.lemmas.Bool.Decides.{nat_tests}
use Rattle.timer_unit.specs.Serial.{SerialAndRequest, tick, transfer_ends}
use Rattle.repeated_steps.proofs.Iterates.{iterate-closed}
use Rattle.repeated_steps.specs.NextEvent.{IsNextEvent}

abbrev finished : SerialAndRequest → SerialAndRequest
finished s = record { serial = record { sb = 255; sc = s.serial.sc % 128; cycles_left = 0 }; requested = true }

abbrev shortened : ℕ → SerialAndRequest → SerialAndRequest
shortened n s = record { serial = record s.serial { cycles_left = s.serial.cycles_left - n }; requested = s.requested }

abbrev pub jump : ℕ → SerialAndRequest → SerialAndRequest
jump n s = cond (eqb s.serial.cycles_left 0) s (cond (ltb n s.serial.cycles_left) (shortened n s) (finished s))

jump-suc : (n : ℕ) (s : SerialAndRequest) → jump (suc n) s ≡ jump n (tick s)
jump-suc n s = grind (arith, nat_tests)

jump-zero : (s : SerialAndRequest) → jump zero s ≡ s
jump-zero s = grind (arith, nat_tests)

pub ticks_by_jump : (n : ℕ) (s : SerialAndRequest) → iterate tick n s ≡ jump n s
ticks_by_jump n s = iterate-closed (λ (_ : SerialAndRequest). Unit {0}) tick jump (λ x p. tt) (λ x p. jump-zero x) (λ k x p. jump-suc k x) n s tt

pub ruleset serial_jumps = (ticks_by_jump, nat_tests)

pub idle : (s : SerialAndRequest) → s.serial.cycles_left ≡ 0 → IsNextEvent tick transfer_ends s None
idle s h k = ap transfer_ends (ticks_by_jump k s) ∙ grind (arith, nat_tests)

pub is_due : (s : SerialAndRequest) → 0 < s.serial.cycles_left → IsNextEvent tick transfer_ends s (Some s.serial.cycles_left)
is_due s h = (
  h,
  ap transfer_ends (ticks_by_jump (s.serial.cycles_left - 1) s) ∙ grind (arith, nat_tests),
  λ k lt. ap transfer_ends (ticks_by_jump k s) ∙ grind (arith, nat_tests),
)
