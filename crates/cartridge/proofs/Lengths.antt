-- The test of a length, and halving one.
use Rattle.std.proofs.Common.{◌≡◌, ◌∙◌, ℕ, zero, suc, ◌*◌, ◌/◌, ◌%◌, ◌^◌, ◌<◌, ◌≤◌, ◌↔◌, true, arith, subst, sym, inl, inr, refl, eq-eqb, ap}
use Rattle.std.specs.Prelude.{◌==◌, ◌⊎◌, ◌≢◌}
use Rattle.std.proofs.lemmas.Bool.{eqb-true, or_cases, cases_order, cases_Bool}
use Rattle.std.proofs.Math.Bool.{or-true}
use Rattle.std.proofs.Math.Nat.{pow-suc}
use Rattle.std.proofs.lemmas.Nat.{pow_pos}
use Rattle.cartridge.specs.Length.{IsImageLength, is_doubled, is_image_length}

-- twice an image's length is one
doubled : (m : ℕ) → IsImageLength m → IsImageLength (2 * m)
doubled m (k, e) = (suc k, omega (arith, e))

-- half of an image's length above the least is one
halved : (m : ℕ) → 16384 < m → IsImageLength (2 * m) → IsImageLength m
halved m large (zero, e) = absurd (omega (arith, e))
halved m large (suc k, e) = (k, omega (arith, e))

pub halving : (n : ℕ) → 32768 < n → n % 2 ≡ 0 → IsImageLength (n / 2) ↔ IsImageLength n
halving n large even =
    let twice : 2 * (n / 2) ≡ n = omega arith in
    let above : 16384 < n / 2 = omega arith in
    let up : IsImageLength (n / 2) → IsImageLength n = λ is. subst IsImageLength twice (doubled (n / 2) is) in
    let down : IsImageLength n → IsImageLength (n / 2) = λ is. halved (n / 2) above (subst IsImageLength (sym twice) is) in
    (up, down)

is_doubled-sound : (k n : ℕ) → is_doubled k n ≡ true → IsImageLength n
unfolding is_doubled
is_doubled-sound zero n h = (zero, eqb-true n 32768 h)
is_doubled-sound (suc k) n h =
    elim (or_cases (n == 32768 * 2 ^ suc k) (is_doubled k n) h) [
      | inl here ↦ (suc k, eqb-true n (32768 * 2 ^ suc k) here)
      | inr below ↦ is_doubled-sound k n below
    ]

is_doubled-complete : (k j n : ℕ) → j ≤ k → n ≡ 32768 * 2 ^ j → is_doubled k n ≡ true
unfolding is_doubled
is_doubled-complete zero j n within is =
    let none : j ≡ 0 = omega arith in
    eq-eqb n 32768 (is ∙ ap (λ i. 32768 * 2 ^ i) none)
is_doubled-complete (suc k) j n within is =
    elim (cases_order j (suc k)) [
      | inl same ↦ rw (eq-eqb n (32768 * 2 ^ suc k) (is ∙ ap (λ i. 32768 * 2 ^ i) same)) refl
      | inr (inl below) ↦ rw (is_doubled-complete k j n (omega arith) is) (or-true (n == 32768 * 2 ^ suc k))
      | inr (inr above) ↦ absurd (omega arith)
    ]

below_power : (k : ℕ) → k < 2 ^ k
below_power zero = omega arith
below_power (suc k) = omega (arith, below_power k, pow-suc 2 k)

-- the test is right
pub is_image_length-sound : (n : ℕ) → is_image_length n ≡ true → IsImageLength n
unfolding is_image_length
is_image_length-sound n h = is_doubled-sound n n h

pub is_image_length-complete : (n : ℕ) → IsImageLength n → is_image_length n ≡ true
unfolding is_image_length
is_image_length-complete n (k, e) = is_doubled-complete n k n (omega (arith, below_power k, e)) e

-- where halving stops, only the least length is one
least_alone : (n : ℕ) → ((32768 < n) × (n % 2 ≢ 0)) ⊎ (n ≤ 32768) → IsImageLength n → n ≡ 32768
least_alone n stop (zero, e) = omega (arith, e)
least_alone n (inl (large, odd)) (suc k, e) = absurd (odd (omega (arith, e, pow-suc 2 k)))
least_alone n (inr small) (suc k, e) = absurd (omega (arith, e, small, pow-suc 2 k, pow_pos k))

pub at_stop : (n m : ℕ) → (IsImageLength n ↔ IsImageLength m) → ((32768 < n) × (n % 2 ≢ 0)) ⊎ (n ≤ 32768) → (n == 32768) ≡ is_image_length m
at_stop n m same stop =
    elim (cases_Bool (is_image_length m)) [
      | inl passes ↦ eq-eqb n 32768 (least_alone n stop (same.1 (is_image_length-sound m passes))) ∙ sym passes
      | inr fails ↦
          elim (cases_Bool (n == 32768)) [
            | inl is ↦
                let whole : IsImageLength n = (zero, eqb-true n 32768 is) in
                is ∙ sym (is_image_length-complete m (same.0 whole))
            | inr other ↦ other ∙ sym fails
          ]
    ]
