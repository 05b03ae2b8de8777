-- Spans that follow one another, the last one first.
use Rattle.std.proofs.Common.{◌≡◌, ◌∙◌, ℕ, ◌+◌, ◌-◌, ◌<◌, ◌≤◌, List, [], ◌∷◌, Bool, true, false, cond, ◌&&◌, nat_le, nat_lt, ltb, ◌⊎◌, inl, inr, ltb-true, ltb-false, refl, sym, ap, arith}
use Rattle.std.proofs.lemmas.List.Sums.{sum_by-cons}
use Rattle.std.proofs.lemmas.Bool.Decides.{nat_tests}
use Rattle.cartridge_clock.specs.Lives.{Given, among}
use Rattle.cartridge_clock.specs.Laws.{reached, givers, total}

-- each begins where the one before it ends, or later
abbrev pub InOrder : ℕ → List Given → Type 0
InOrder start [] = Unit {0}
InOrder start (g ∷ gs) = (reached start gs ≤ g.from) × (g.from ≤ g.until) × (InOrder start gs)

pub among_order : (start n : ℕ) (gs : List Given) → InOrder start gs → (InOrder start (among n gs)) × (reached start (among n gs) ≤ reached start gs)
among_order start n [] h = (tt, omega arith)
among_order start n (g ∷ gs) h =
    let rest = among_order start n gs h.2 in
    elim (nat_le g.at n) as (λ b. (InOrder start (cond b (g ∷ among n gs) (among n gs))) × (reached start (cond b (g ∷ among n gs) (among n gs)) ≤ g.until)) [
      | true ↦ ((omega (arith, rest.1, h.0), h.1, rest.0), omega arith)
      | false ↦ (rest.0, omega (arith, rest.1, h.0, h.1))
    ]

among_front : (m n : ℕ) (g : Given) (gs : List Given) (b c : Bool)
    → cond b (cond c (g ∷ among m (among n gs)) (among m (among n gs))) (among m (among n gs)) ≡ cond c (cond b (g ∷ among m (among n gs)) (among m (among n gs))) (among m (among n gs))
among_front m n g gs true true = refl
among_front m n g gs true false = refl
among_front m n g gs false true = refl
among_front m n g gs false false = refl

among_step : (m n : ℕ) (g : Given) (gs : List Given) (b : Bool)
    → among m (cond b (g ∷ among n gs) (among n gs)) ≡ cond b (cond (nat_le g.at m) (g ∷ among m (among n gs)) (among m (among n gs))) (among m (among n gs))
among_step m n g gs true = refl
among_step m n g gs false = refl

pub among_both : (m n : ℕ) (gs : List Given) → among m (among n gs) ≡ among n (among m gs)
among_both m n [] = refl
among_both m n (g ∷ gs) =
    among_step m n g gs (nat_le g.at n)
    ∙ among_front m n g gs (nat_le g.at n) (nat_le g.at m)
    ∙ ap (λ (l : List Given). cond (nat_le g.at m) (cond (nat_le g.at n) (g ∷ l) l) l) (among_both m n gs)
    ∙ sym (among_step n m g gs (nat_le g.at m))

pub total_order : (start : ℕ) (gs : List Given) → InOrder start gs → start + total gs ≤ reached start gs
total_order start [] h = omega arith
total_order start (g ∷ gs) h = omega (arith, h.0, h.1, total_order start gs h.2, sum_by-cons (λ (g : Given). g.until - g.from) g gs)

abbrev counted : ℕ → Given → ℕ
counted second g = cond (nat_le g.from second && nat_lt second g.until) 1 0

above_none : (start second : ℕ) (gs : List Given) → InOrder start gs → reached start gs ≤ second → givers second gs ≡ 0
above_none start second [] h above = refl
above_none start second (g ∷ gs) h above =
    let rest = above_none start second gs h.2 (omega (arith, h.0, h.1, above)) in
    let here : counted second g ≡ 0 = grind (arith, nat_tests, above) in
    omega (arith, here, rest, sum_by-cons (counted second) g gs)

early_none : (second : ℕ) (g : Given) → second < g.from → counted second g ≡ 0
early_none second g early = grind (arith, nat_tests)

at_most_one : (b : Bool) → cond b 1 0 ≤ 1
at_most_one true = omega arith
at_most_one false = omega arith

lies : (a b : ℕ) (t : Bool) → ltb b a ≡ t → (a ≤ b) ⊎ (b < a)
lies a b true e = inr (ltb-true b a e)
lies a b false e = inl (ltb-false b a e)

pub order_once : (start second : ℕ) (gs : List Given) → InOrder start gs → givers second gs ≤ 1
order_once start second [] h = omega arith
order_once start second (g ∷ gs) h =
    let more = sum_by-cons (counted second) g gs in
    elim (lies g.from second (ltb second g.from) refl) [
      | inl late ↦ omega (arith, more, at_most_one (nat_le g.from second && nat_lt second g.until), above_none start second gs h.2 (omega (arith, late, h.0)))
      | inr early ↦ omega (arith, more, early_none second g early, order_once start second gs h.2)
    ]
