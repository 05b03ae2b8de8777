-- A timer after n M-cycles, by division.
use Rattle.std.proofs.Common.{◌≡◌, ℕ, zero, suc, ◌+◌, ◌-◌, ◌*◌, ◌%◌, ◌^◌, ◌<◌, ◌≤◌, Bool, true, false, ltb, leb, eqb, cond, refl, sym, ap, ◌∙◌, arith, inl, inr}
use Rattle.std.specs.Prelude.{◌⊎◌, not, ◌&&◌, Some, None}
use Rattle.std.specs.Fn.{iterate}
use Rattle.std.proofs.lemmas.Bool.Decides.{nat_tests}
use Rattle.std.proofs.lemmas.Bool.{cases_lt}
use Rattle.std.proofs.Math.Nat.{mod-eq-sub-mod, mod-eq_of_lt, mod-lt, div-eq_of_lt}
use Rattle.std.proofs.lemmas.Nat.{pow_pos}
use Rattle.timer_unit.specs.declared.timer.TimerState.{TimerState}
use Rattle.timer_unit.specs.Timer.{IsLegalTimer, TimerAndRequest, bit, selected_bit, signal, unrequested, increment_tima, tick, ticks, signal_falls}
use Rattle.timer_unit.specs.Laws.{cycles_per_count}
use Rattle.timer_unit.specs.TimerJump.{with_falls, grown, falls_of_bit, falls_in, jump, due_of_bit}
use Rattle.repeated_steps.proofs.Iterates.{iterate-closed, iterate-keeps}
use Rattle.repeated_steps.specs.NextEvent.{IsNextEvent}

abbrev FallsRightly : ℕ → Type 0
FallsRightly k = (c n : ℕ) → c < 65536 →
    ((bit c k && not (bit ((c + 4) % 65536) k) ≡ false) × (falls_of_bit k c (suc n) ≡ falls_of_bit k ((c + 4) % 65536) n))
    ⊎ ((bit c k && not (bit ((c + 4) % 65536) k) ≡ true) × (falls_of_bit k c (suc n) ≡ suc (falls_of_bit k ((c + 4) % 65536) n)))

nine : FallsRightly 9
nine c n h = grind (arith, nat_tests)

three : FallsRightly 3
three c n h = grind (arith, nat_tests)

five : FallsRightly 5
five c n h = grind (arith, nat_tests)

seven : FallsRightly 7
seven c n h = grind (arith, nat_tests)

falls_rightly : (tac : ℕ) → FallsRightly (selected_bit tac)
falls_rightly tac =
    elim (eqb (tac % 4) 0) as (λ a. FallsRightly (cond a 9 (cond (eqb (tac % 4) 1) 3 (cond (eqb (tac % 4) 2) 5 7)))) [
      | true ↦ nine
      | false ↦ elim (eqb (tac % 4) 1) as (λ a. FallsRightly (cond a 3 (cond (eqb (tac % 4) 2) 5 7))) [
        | true ↦ three
        | false ↦ elim (eqb (tac % 4) 2) as (λ a. FallsRightly (cond a 5 7)) [ true ↦ five | false ↦ seven ]
      ]
    ]

reload : (f m : ℕ) → m < 256 → cond (ltb (m + f) 256) (m + f) (m + (m + f - 256) % (256 - m)) ≡ m + f % (256 - m)
reload f m h =
    elim (cases_lt f (256 - m)) [
      | inl lt ↦ let e : f % (256 - m) ≡ f = mod-eq_of_lt lt in grind (arith, nat_tests)
      | inr le ↦ let e : f % (256 - m) ≡ (f - (256 - m)) % (256 - m) = mod-eq-sub-mod le in
          let d : m + f - 256 ≡ f - (256 - m) = omega arith in
          let g : ltb (m + f) 256 ≡ false = grind (arith, nat_tests) in
          rw (g, d, e) refl
    ]

with_falls-suc : (f : ℕ) (s : TimerAndRequest) → s.timer.tima < 256 → s.timer.tma < 256 → with_falls (suc f) s ≡ with_falls f (increment_tima s)
with_falls-suc f s h m =
    let e = reload f s.timer.tma m in
    grind (arith, nat_tests)

pub with_falls-zero : (s : TimerAndRequest) → s.timer.tima < 256 → with_falls zero s ≡ s
with_falls-zero s h = grind (arith, nat_tests)

grown-grown : (n : ℕ) (s : TimerAndRequest) → grown n (grown 1 s) ≡ grown (suc n) s
grown-grown n s =
    let e : ((s.timer.counter + 4 * 1) % 65536 + 4 * n) % 65536 ≡ (s.timer.counter + 4 * suc n) % 65536 = omega arith in
    rw e refl

grown-increment_tima : (n : ℕ) (s : TimerAndRequest) → grown n (increment_tima s) ≡ increment_tima (grown n s)
grown-increment_tima n s =
    elim (eqb s.timer.tima 255) as (λ b. grown n (cond b (record { timer = record s.timer { tima = s.timer.tma }; requested = true }) (record { timer = record s.timer { tima = s.timer.tima + 1 }; requested = s.requested })) ≡ cond b (record { timer = record (grown n s).timer { tima = s.timer.tma }; requested = true }) (record { timer = record (grown n s).timer { tima = s.timer.tima + 1 }; requested = s.requested })) [ true ↦ refl | false ↦ refl ]

-- A count of TIMA changes neither the counter nor TAC
counter-increment_tima : (s : TimerAndRequest) → ((increment_tima s).timer.counter ≡ s.timer.counter) × ((increment_tima s).timer.tac ≡ s.timer.tac)
counter-increment_tima s = grind (arith, nat_tests)

-- a legal timer stays legal
pub tick-keeps : (s : TimerAndRequest) → IsLegalTimer s.timer → IsLegalTimer (tick s).timer
tick-keeps s h = record { counter = grind (arith, nat_tests, h.counter); tima = grind (arith, nat_tests, h.tima, h.tma); tma = grind (arith, nat_tests, h.tma); tac = grind (arith, nat_tests, h.tac) }

falls_by_tac : (tac c n : ℕ) → c < 65536 →
    ((signal tac c && not (signal tac ((c + 4) % 65536)) ≡ false) × (falls_in tac c (suc n) ≡ falls_in tac ((c + 4) % 65536) n))
    ⊎ ((signal tac c && not (signal tac ((c + 4) % 65536)) ≡ true) × (falls_in tac c (suc n) ≡ suc (falls_in tac ((c + 4) % 65536) n)))
falls_by_tac tac c n h =
    let k = selected_bit tac in
    elim (leb 4 tac) as (λ on. (((on && bit c k) && not (on && bit ((c + 4) % 65536) k) ≡ false) × (cond on (falls_of_bit k c (suc n)) 0 ≡ cond on (falls_of_bit k ((c + 4) % 65536) n) 0))
    ⊎ (((on && bit c k) && not (on && bit ((c + 4) % 65536) k) ≡ true) × (cond on (falls_of_bit k c (suc n)) 0 ≡ suc (cond on (falls_of_bit k ((c + 4) % 65536) n) 0)))) [
      | true ↦ falls_rightly tac c n h
      | false ↦ inl (refl, refl)
    ]

jump-suc : (n : ℕ) (s : TimerAndRequest) → IsLegalTimer s.timer → jump (suc n) s ≡ jump n (tick s)
jump-suc n s h =
    let c' = (s.timer.counter + 4) % 65536 in
    let f = falls_in s.timer.tac c' n in
    elim (falls_by_tac s.timer.tac s.timer.counter n h.counter) [
      | inl p ↦
          let same : tick s ≡ grown 1 s = ap (λ b. cond b (increment_tima (grown 1 s)) (grown 1 s)) p.0 in
          ap (λ (k : ℕ). with_falls k (grown (suc n) s)) p.1 ∙ ap (with_falls f) (sym (grown-grown n s)) ∙ ap (jump n) (sym same)
      | inr p ↦
          let fell : tick s ≡ increment_tima (grown 1 s) = ap (λ b. cond b (increment_tima (grown 1 s)) (grown 1 s)) p.0 in
          let there = counter-increment_tima (grown 1 s) in
          let left : jump n (increment_tima (grown 1 s)) ≡ with_falls f (increment_tima (grown (suc n) s)) =
          ap (λ (p : ℕ × ℕ). with_falls (falls_in p.0 p.1 n) (grown n (increment_tima (grown 1 s)))) (ap (λ (q : ℕ). (q, (increment_tima (grown 1 s)).timer.counter)) there.1 ∙ ap (λ (q : ℕ). (s.timer.tac, q)) there.0)
          ∙ ap (with_falls f) (grown-increment_tima n (grown 1 s) ∙ ap increment_tima (grown-grown n s)) in
          ap (λ (k : ℕ). with_falls k (grown (suc n) s)) p.1 ∙ with_falls-suc f (grown (suc n) s) h.tima h.tma ∙ sym left ∙ ap (jump n) (sym fell)
    ]

none_of_bit : (k c : ℕ) → falls_of_bit k c zero ≡ 0
none_of_bit k c =
    let pos = pow_pos k in
    let wide : 0 < 2 * 2 ^ k = omega arith in
    let e : c % (2 * 2 ^ k) + 4 * zero ≡ c % (2 * 2 ^ k) = omega arith in
    rw e (div-eq_of_lt (mod-lt c wide))

none : (tac c : ℕ) → falls_in tac c zero ≡ 0
none tac c = elim (leb 4 tac) as (λ on. cond on (falls_of_bit (selected_bit tac) c zero) 0 ≡ 0) [ true ↦ none_of_bit (selected_bit tac) c | false ↦ refl ]

jump-zero : (s : TimerAndRequest) → IsLegalTimer s.timer → jump zero s ≡ s
jump-zero s h =
    let same : grown zero s ≡ s = let m : (s.timer.counter + 4 * zero) % 65536 ≡ s.timer.counter = omega (arith, h.counter) in rw m refl in
    ap (λ (f : ℕ). with_falls f (grown zero s)) (none s.timer.tac s.timer.counter) ∙ with_falls-zero (grown zero s) h.tima ∙ same

pub ticks_by_jump : (n : ℕ) (s : TimerAndRequest) → IsLegalTimer s.timer → iterate tick n s ≡ jump n s
ticks_by_jump n s h = iterate-closed (λ (s : TimerAndRequest). IsLegalTimer s.timer) tick jump tick-keeps jump-zero jump-suc n s h

-- ---- the next fall

abbrev FallsWhenDue : ℕ → Type 0
FallsWhenDue k = (c j : ℕ) → c < 65536 →
    (j + 1 < due_of_bit k c → bit ((c + 4 * j) % 65536) k && not (bit (((c + 4 * j) % 65536 + 4) % 65536) k) ≡ false)
    × (j + 1 ≡ due_of_bit k c → bit ((c + 4 * j) % 65536) k && not (bit (((c + 4 * j) % 65536 + 4) % 65536) k) ≡ true)
    × (0 < due_of_bit k c)

nine_due : FallsWhenDue 9
nine_due c j h = (λ lt. grind (arith, nat_tests), λ e. grind (arith, nat_tests), omega arith)

three_due : FallsWhenDue 3
three_due c j h = (λ lt. grind (arith, nat_tests), λ e. grind (arith, nat_tests), omega arith)

five_due : FallsWhenDue 5
five_due c j h = (λ lt. grind (arith, nat_tests), λ e. grind (arith, nat_tests), omega arith)

seven_due : FallsWhenDue 7
seven_due c j h = (λ lt. grind (arith, nat_tests), λ e. grind (arith, nat_tests), omega arith)

falls_when_due : (tac : ℕ) → FallsWhenDue (selected_bit tac)
falls_when_due tac =
    elim (eqb (tac % 4) 0) as (λ a. FallsWhenDue (cond a 9 (cond (eqb (tac % 4) 1) 3 (cond (eqb (tac % 4) 2) 5 7)))) [
      | true ↦ nine_due
      | false ↦ elim (eqb (tac % 4) 1) as (λ a. FallsWhenDue (cond a 3 (cond (eqb (tac % 4) 2) 5 7))) [
        | true ↦ three_due
        | false ↦ elim (eqb (tac % 4) 2) as (λ a. FallsWhenDue (cond a 5 7)) [ true ↦ five_due | false ↦ seven_due ]
      ]
    ]

-- n M-cycles later the counter is further on, and TAC is the same
with_falls-keeps : (f : ℕ) (s : TimerAndRequest) → ((with_falls f s).timer.counter ≡ s.timer.counter) × ((with_falls f s).timer.tac ≡ s.timer.tac)
with_falls-keeps f s = grind (arith, nat_tests)

falls_by_fields : (s t : TimerAndRequest) → s.timer.counter ≡ t.timer.counter → s.timer.tac ≡ t.timer.tac → signal_falls s ≡ signal_falls t
falls_by_fields s t c k = rw (c, k) refl

signal_falls-later : (j : ℕ) (s : TimerAndRequest) → IsLegalTimer s.timer → signal_falls (iterate tick j s) ≡ signal_falls (grown j s)
signal_falls-later j s h =
    let k = with_falls-keeps (falls_in s.timer.tac s.timer.counter j) (grown j s) in
    ap signal_falls (ticks_by_jump j s h) ∙ falls_by_fields (jump j s) (grown j s) k.0 k.1

pub never_due : (s : TimerAndRequest) → IsLegalTimer s.timer → s.timer.tac < 4 → IsNextEvent tick signal_falls s None
never_due s h off j = signal_falls-later j s h ∙ grind (arith, nat_tests)

pub is_due : (s : TimerAndRequest) (n : ℕ) → IsLegalTimer s.timer → 4 ≤ s.timer.tac → n ≡ due_of_bit (selected_bit s.timer.tac) s.timer.counter → IsNextEvent tick signal_falls s (Some n)
is_due s n h on e =
    let law = falls_when_due s.timer.tac s.timer.counter in
    let running : leb 4 s.timer.tac ≡ true = grind (arith, nat_tests) in
    let pos = (law 0 h.counter).2 in
    let last : n - 1 + 1 ≡ due_of_bit (selected_bit s.timer.tac) s.timer.counter = omega arith in
    let at : (j : ℕ) (b : Bool) → bit ((s.timer.counter + 4 * j) % 65536) (selected_bit s.timer.tac) && not (bit (((s.timer.counter + 4 * j) % 65536 + 4) % 65536) (selected_bit s.timer.tac)) ≡ b → signal_falls (iterate tick j s) ≡ b =
    λ j b q. signal_falls-later j s h ∙ rw running q in
    (omega arith, at (n - 1) true ((law (n - 1) h.counter).1 last), λ j lt. at j false ((law j h.counter).0 (omega arith)))

-- ---- the rate

one_fall : (tac c : ℕ) → falls_of_bit (selected_bit tac) c (cycles_per_count tac) ≡ 1
one_fall tac c =
    elim (eqb (tac % 4) 0) as (λ a. falls_of_bit (cond a 9 (cond (eqb (tac % 4) 1) 3 (cond (eqb (tac % 4) 2) 5 7))) c (cond a 256 (cond (eqb (tac % 4) 1) 4 (cond (eqb (tac % 4) 2) 16 64))) ≡ 1) [
      | true ↦ (let e : falls_of_bit 9 c 256 ≡ 1 = omega arith in e)
      | false ↦ elim (eqb (tac % 4) 1) as (λ a. falls_of_bit (cond a 3 (cond (eqb (tac % 4) 2) 5 7)) c (cond a 4 (cond (eqb (tac % 4) 2) 16 64)) ≡ 1) [
        | true ↦ (let e : falls_of_bit 3 c 4 ≡ 1 = omega arith in e)
        | false ↦ elim (eqb (tac % 4) 2) as (λ a. falls_of_bit (cond a 5 7) c (cond a 16 64) ≡ 1) [
          | true ↦ (let e : falls_of_bit 5 c 16 ≡ 1 = omega arith in e)
          | false ↦ (let e : falls_of_bit 7 c 64 ≡ 1 = omega arith in e)
        ]
      ]
    ]

one_count : (s : TimerAndRequest) → s.timer.tima < 256 → s.timer.tma < 256 → with_falls 1 s ≡ increment_tima s
one_count s h m =
    let below : (increment_tima s).timer.tima < 256 = grind (arith, nat_tests) in
    with_falls-suc 0 s h m ∙ with_falls-zero (increment_tima s) below

pub counts_at_its_rate : (t : TimerState) → IsLegalTimer t → 4 ≤ t.tac →
    ticks (cycles_per_count t.tac) t ≡ increment_tima (grown (cycles_per_count t.tac) (unrequested t))
counts_at_its_rate t h on =
    let n = cycles_per_count t.tac in
    let running : leb 4 t.tac ≡ true = grind (arith, nat_tests) in
    let once : falls_in t.tac t.counter n ≡ 1 = rw running (one_fall t.tac t.counter) in
    ticks_by_jump n (unrequested t) h ∙ ap (λ (f : ℕ). with_falls f (grown n (unrequested t))) once
    ∙ one_count (grown n (unrequested t)) h.tima h.tma
