-- M-cycles in which TIMA does not overflow, so that nothing is requested.
use Rattle.std.proofs.Common.{◌≡◌, ℕ, ◌+◌, ◌-◌, ◌*◌, ◌%◌, ◌^◌, ◌<◌, ◌≤◌, true, false, leb, eqb, cond, ap, subst, sym, ◌∙◌, arith}
use Rattle.std.proofs.lemmas.Bool.Decides.{nat_tests}
use Rattle.timer_unit.specs.declared.timer.TimerState.{TimerState}
use Rattle.timer_unit.specs.Timer.{IsLegalTimer, selected_bit, ticks, unrequested}
use Rattle.timer_unit.specs.TimerJump.{falls_of_bit, falls_in, due_of_bit}
use Rattle.timer_unit.proofs.TimerJump.{ticks_by_jump}

-- TIMA has counted t, and m M-cycles take the counts that are left below the overflow
abbrev StaysBelow : ℕ → Type 0
StaysBelow k = (c n t m : ℕ) → t < 256 → 4 * m ≡ 2 * 2 ^ k * (255 - t) → n ≤ due_of_bit k c - 1 + m → t + falls_of_bit k c n < 256

nine : StaysBelow 9
nine c n t m h e le = omega (arith, h, e, le)

three : StaysBelow 3
three c n t m h e le = omega (arith, h, e, le)

five : StaysBelow 5
five c n t m h e le = omega (arith, h, e, le)

seven : StaysBelow 7
seven c n t m h e le = omega (arith, h, e, le)

pub counts_below : (tac : ℕ) → StaysBelow (selected_bit tac)
counts_below tac =
    elim (eqb (tac % 4) 0) as (λ a. StaysBelow (cond a 9 (cond (eqb (tac % 4) 1) 3 (cond (eqb (tac % 4) 2) 5 7)))) [
      | true ↦ nine
      | false ↦ elim (eqb (tac % 4) 1) as (λ a. StaysBelow (cond a 3 (cond (eqb (tac % 4) 2) 5 7))) [
        | true ↦ three
        | false ↦ elim (eqb (tac % 4) 2) as (λ a. StaysBelow (cond a 5 7)) [ true ↦ five | false ↦ seven ]
      ]
    ]

pub unrequested_below : (n : ℕ) (t : TimerState) → IsLegalTimer t → t.tima + falls_in t.tac t.counter n < 256 → (ticks n t).requested ≡ false
unrequested_below n t h below =
    ap (λ s. s.requested) (ticks_by_jump n (unrequested t) h) ∙ grind (arith, nat_tests, below)

pub counted_below : (tac c n t m : ℕ) → t < 256 → 4 * m ≡ 2 * 2 ^ selected_bit tac * (255 - t) → n ≤ due_of_bit (selected_bit tac) c - 1 + m → t + falls_in tac c n < 256
counted_below tac c n t m h e le =
    elim (leb 4 tac) as (λ on. t + cond on (falls_of_bit (selected_bit tac) c n) 0 < 256) [ true ↦ counts_below tac c n t m h e le | false ↦ omega (arith, h) ]

pub none_below : (tac c n t : ℕ) → t < 256 → tac < 4 → t + falls_in tac c n < 256
none_below tac c n t h off =
    let stopped : leb 4 tac ≡ false = grind (arith, nat_tests) in
    subst (λ on. t + cond on (falls_of_bit (selected_bit tac) c n) 0 < 256) (sym stopped) (omega (arith, h))
