-- A transfer takes 1,024 M-cycles and requests its interrupt once.
use Rattle.std.proofs.Common.{◌≡◌, ℕ, ◌/◌, ◌%◌, ◌<◌, ◌≤◌, true, false, refl, sym, ap, subst, ◌∙◌, arith}
use Rattle.std.proofs.lemmas.Bool.Decides.{nat_tests}
use Rattle.timer_unit.specs.declared.serial.SerialState.{SerialState}
use Rattle.timer_unit.specs.Serial.{SerialAndRequest, unrequested, sc_bits, sc_written, ticks}
use Rattle.timer_unit.specs.SerialLaws.{sent_for, IsSending, IsSent, TransferTakes1024Cycles}
use Rattle.timer_unit.proofs.SerialJump.{jump, ticks_by_jump}

started : (value : ℕ) (s : SerialState) → value / 128 % 2 ≡ 1 → value % 2 ≡ 1 →
    sc_written value s ≡ record { sb = s.sb; sc = 0x81; cycles_left = 1024 }
started value s seven zero =
    let bits : sc_bits value ≡ 0x81 = omega arith in
    rw bits refl

abbrev started_state : SerialState → SerialAndRequest
started_state s = unrequested (record { sb = s.sb; sc = 0x81; cycles_left = 1024 })

sends : (n value : ℕ) (s : SerialState) → value / 128 % 2 ≡ 1 → value % 2 ≡ 1 → sent_for n value s ≡ jump n (started_state s)
unfolding sent_for
sends n value s seven zero = ap (ticks n) (started value s seven zero) ∙ ticks_by_jump n _

is_sending : (n : ℕ) (s : SerialState) → n < 1024 → IsSending s.sb (jump n (started_state s))
is_sending n s lt = record { sb = grind (arith, nat_tests); sc = grind (arith, nat_tests); requested = grind (arith, nat_tests) }

is_over : (n : ℕ) (s : SerialState) → 1024 ≤ n → jump n (started_state s) ≡ record { serial = record { sb = 0xFF; sc = 0x01; cycles_left = 0 }; requested = true }
is_over n s le = grind (arith, nat_tests)

none_after : (n : ℕ) (s : SerialState) → s.cycles_left ≡ 0 → (ticks n s).requested ≡ false
none_after n s h = ap (λ (d : SerialAndRequest). d.requested) (ticks_by_jump n (unrequested s)) ∙ grind (arith, nat_tests)

module _ (value : ℕ) (s : SerialState) (seven : value / 128 % 2 ≡ 1) (zero : value % 2 ≡ 1) where
  over : (n : ℕ) → 1024 ≤ n → sent_for n value s ≡ record { serial = record { sb = 0xFF; sc = 0x01; cycles_left = 0 }; requested = true }
  over n le = sends n value s seven zero ∙ is_over n s le

  sent : (n : ℕ) → 1024 ≤ n → IsSent (sent_for n value s)
  sent n le = record {
    sb = ap (λ (d : SerialAndRequest). d.serial.sb) (over n le);
    sc = ap (λ (d : SerialAndRequest). d.serial.sc) (over n le);
    requested = ap (λ (d : SerialAndRequest). d.requested) (over n le);
  }

  once_only : (n m : ℕ) → 1024 ≤ n → (ticks m (sent_for n value s).serial).requested ≡ false
  once_only n m le = none_after m _ (ap (λ (d : SerialAndRequest). d.serial.cycles_left) (over n le))

pub transfer_takes_1024_cycles : TransferTakes1024Cycles
transfer_takes_1024_cycles value s seven zero = record {
  runs = λ n lt. subst (IsSending s.sb) (sym (sends n value s seven zero)) (is_sending n s lt);
  ends = sent value s seven zero 1024 (omega arith);
  once = λ n. once_only value s seven zero 1024 n (omega arith);
}
