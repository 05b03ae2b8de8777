-- The object in front has the smallest X, and of those the lowest index.
use Rattle.std.proofs.Common.{◌≡◌, ◌<◌, ◌≤◌, ℕ, zero, suc, Bool, true, false, List, [], ◌∷◌, length, get_or, refl, sym, ap, subst, arith, None, Some, inl, inr}
use Rattle.std.specs.Prelude.{Option, nat_le, if◌then◌else◌}
use Rattle.std.proofs.lemmas.List.{get_or_default}
use Rattle.std.proofs.lemmas.Bool.{cases_lt, cases_eq}
use Rattle.picture_lines.specs.Pixel.{winner, in_front}
use Rattle.picture_lines.specs.WinnerLaw.{IsWinner}
use Rattle.picture_lines.specs.declared.object_entry.Object.{Object}

one_is_in_front : (p : Object) (f : Option Object) → in_front p f ≡ None → None ≡ Some p
unfolding in_front
one_is_in_front p None e = sym e
one_is_in_front p (Some q) e = elim (nat_le p.x q.x) as (λ b. (if b then Some p else Some q) ≡ None → None ≡ Some p) [ true ↦ λ h. sym h | false ↦ λ h. cc ] e

pub winner-none : (objects : List Object) → winner objects ≡ None → objects ≡ []
unfolding winner
winner-none [] e = refl
winner-none (p ∷ rest) e = let no : None ≡ Some p = one_is_in_front p (winner rest) e in cc

no_smaller : (rest : List Object) (q : Object) → IsWinner rest q → (k : ℕ) → k < length rest → (d : Object) → q.x ≤ (get_or rest k d).x
no_smaller rest q front k within d =
    let P : Object → Type 0 = λ a. q.x ≤ a.x
    in subst P (get_or_default rest k q d within) (elim (cases_lt k front.place) [
      | inl below ↦ let h = front.before k below in omega (arith, h)
      | inr above ↦ elim (cases_eq k front.place) [
        | inl same ↦ let Q : ℕ → Type 0 = λ n. q.x ≤ (get_or rest n q).x in subst Q (sym same) (subst P (sym front.there) (omega arith))
        | inr other ↦ front.after k (omega arith) within
      ]
    ])

first-after : (p : Object) (rest : List Object) → ((k : ℕ) → k < length rest → p.x ≤ (get_or rest k p).x) → (k : ℕ) → 0 < k → k < length (p ∷ rest) → p.x ≤ (get_or (p ∷ rest) k p).x
first-after p rest least zero above within = absurd (omega arith)
first-after p rest least (suc k) above within = least k (omega arith)

-- the first of the list, where no other has a smaller X
first_in_front : (p : Object) (rest : List Object) → ((k : ℕ) → k < length rest → p.x ≤ (get_or rest k p).x) → IsWinner (p ∷ rest) p
first_in_front p rest least = record {
  place = 0;
  within = omega arith;
  there = refl;
  before = λ k h. absurd (omega arith);
  after = first-after p rest least;
}

module _ (p o : Object) (rest : List Object) (front : IsWinner rest o) (less : o.x < p.x) where
  later-before : (k : ℕ) → k < suc front.place → o.x < (get_or (p ∷ rest) k o).x
  later-before zero h = less
  later-before (suc k) h = front.before k (omega arith)

  later-after : (k : ℕ) → suc front.place < k → k < length (p ∷ rest) → o.x ≤ (get_or (p ∷ rest) k o).x
  later-after zero above within = absurd (omega arith)
  later-after (suc k) above within = front.after k (omega arith) (omega arith)

  -- one further on, where it is in front of those after the first, and the first has a greater X
  later_in_front : IsWinner (p ∷ rest) o
  later_in_front = record {
    place = suc front.place;
    within = let h = front.within in omega (arith, h);
    there = front.there;
    before = later-before;
    after = later-after;
  }

by_test : (p q o : Object) (rest : List Object) (b : Bool) → nat_le p.x q.x ≡ b → (if b then Some p else Some q) ≡ Some o → IsWinner rest q → IsWinner (p ∷ rest) o
by_test p q o rest true test e front =
    let less : p.x ≤ q.x = grind arith
    in let same : p ≡ o = cc
    in let P : Object → Type 0 = IsWinner (p ∷ rest)
    in subst P same (first_in_front p rest (λ k h. let far = no_smaller rest q front k h p in omega (arith, less, far)))
by_test p q o rest false test e front =
    let less : q.x < p.x = grind arith
    in let same : q ≡ o = cc
    in let P : Object → Type 0 = IsWinner (p ∷ rest)
    in subst P same (later_in_front p q rest front less)

step : (p o : Object) (rest : List Object) (f : Option Object) → winner rest ≡ f → in_front p f ≡ Some o → ((q : Object) → winner rest ≡ Some q → IsWinner rest q) → IsWinner (p ∷ rest) o
unfolding in_front
step p o rest None is e fronts =
    let none : rest ≡ [] = winner-none rest is
    in let same : p ≡ o = cc
    in let P : Object → Type 0 = IsWinner (p ∷ rest)
    in subst P same (first_in_front p rest (λ k h. absurd (omega (arith, ap length none))))
step p o rest (Some q) is e fronts = by_test p q o rest (nat_le p.x q.x) refl e (fronts q is)

pub winner-least : (objects : List Object) (o : Object) → winner objects ≡ Some o → IsWinner objects o
unfolding winner
winner-least [] o e = cc
winner-least (p ∷ rest) o e = step p o rest (winner rest) refl e (winner-least rest)
