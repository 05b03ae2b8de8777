-- Lemmas on the next event of a run.
use Rattle.std.proofs.Common.{◌≡◌, ℕ, ◌-◌, ◌<◌, Bool, true, false, Option, Some, None, refl, sym, ap, ◌∙◌, arith, inl, inr}
use Rattle.std.specs.Prelude.{min, ◌||◌}
use Rattle.std.specs.Fn.{iterate}
use Rattle.std.proofs.lemmas.Bool.{cases_lt}
use Rattle.repeated_steps.specs.NextEvent.{IsNextEvent, earlier}

both_ways : {A : Type 0} (b : Bool) → b ≡ true → b ≡ false → A
both_ways b t f =
    let e : true ≡ false = sym t ∙ f in
    cc

before : {A : Type 0} (h : A → A) (f : A → Bool) (x : A) (m n : ℕ) → m < n → IsNextEvent h f x (Some m) → IsNextEvent h f x (Some n) → Some m ≡ Some n
before h f x m n lt p q = both_ways (f (iterate h (m - 1) x)) p.1 (q.2 (m - 1) (omega (arith, p.0)))

-- A run has one next event at most.
pub next-unique : {A : Type 0} (h : A → A) (f : A → Bool) (x : A) (a b : Option ℕ) → IsNextEvent h f x a → IsNextEvent h f x b → a ≡ b
next-unique h f x None None p q = refl
next-unique h f x None (Some n) p q = both_ways (f (iterate h (n - 1) x)) q.1 (p (n - 1))
next-unique h f x (Some m) None p q = both_ways (f (iterate h (m - 1) x)) p.1 (q (m - 1))
next-unique h f x (Some m) (Some n) p q =
    elim (cases_lt m n) [
      | inl lt ↦ before h f x m n lt p q
      | inr le ↦ elim (cases_lt n m) [
        | inl gt ↦ sym (before h f x n m gt q p)
        | inr ge ↦ let e : m ≡ n = omega arith in ap Some e
      ]
    ]

or_left : (p q : Bool) → p ≡ true → (p || q) ≡ true
or_left p q e = ap (λ b. b || q) e

or_right : (p q : Bool) → p ≡ false → q ≡ true → (p || q) ≡ true
or_right p q e f = ap (λ b. b || q) e ∙ f

or_none : (p q : Bool) → p ≡ false → q ≡ false → (p || q) ≡ false
or_none p q e f = ap (λ b. b || q) e ∙ f

-- The next event of two kinds is the earlier of the next of each.
pub next-either : {A : Type 0} (h : A → A) (f g : A → Bool) (x : A) (a b : Option ℕ) → IsNextEvent h f x a → IsNextEvent h g x b → IsNextEvent h (λ y. f y || g y) x (earlier a b)
next-either h f g x None None p q = λ k. or_none _ _ (p k) (q k)
next-either h f g x None (Some n) p q = (q.0, or_right _ _ (p (n - 1)) q.1, λ k lt. or_none _ _ (p k) (q.2 k lt))
next-either h f g x (Some m) None p q = (p.0, or_left _ _ p.1, λ k lt. or_none _ _ (p.2 k lt) (q k))
next-either h f g x (Some m) (Some n) p q = (
  omega (arith, p.0, q.0),
  elim (cases_lt n m) [
    | inl lt ↦
        let e : min m n - 1 ≡ n - 1 = omega arith in
        ap (λ (k : ℕ). f (iterate h k x) || g (iterate h k x)) e ∙ or_right _ _ (p.2 (n - 1) (omega (arith, q.0))) q.1
    | inr le ↦
        let e : min m n - 1 ≡ m - 1 = omega arith in
        ap (λ (k : ℕ). f (iterate h k x) || g (iterate h k x)) e ∙ or_left _ _ p.1
  ],
  λ k lt. or_none _ _ (p.2 k (omega arith)) (q.2 k (omega arith)),
)

-- Events that are seen the same after each number of steps come at the same step.
pub next-along : {A B : Type 0} (h : A → A) (f : A → Bool) (x : A) (k : B → B) (g : B → Bool) (y : B) (a : Option ℕ) → ((n : ℕ) → f (iterate h n x) ≡ g (iterate k n y)) → IsNextEvent k g y a → IsNextEvent h f x a
next-along h f x k g y None e q = λ n. e n ∙ q n
next-along h f x k g y (Some n) e q = (q.0, e (n - 1) ∙ q.1, λ m lt. e m ∙ q.2 m lt)
