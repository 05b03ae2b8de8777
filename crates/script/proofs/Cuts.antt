-- A list that is cut at the first element that passes a test.
use Rattle.std.proofs.Common.{◌≡◌, ℕ, ◌+◌, ◌-◌, ◌<◌, ◌≤◌, Bool, true, false, List, [], ◌∷◌, length, None, Some, cond, take, drop, refl, arith, nat_lt}
use Rattle.std.specs.List.{position, position_or_len, slice_split}
use Rattle.std.proofs.lemmas.Bool.{ltb-true}
use Rattle.std.proofs.lemmas.Bool.Decides.{nat_tests}
use Rattle.std.proofs.lemmas.List.{take_all, length-drop}
use Rattle.std.proofs.lemmas.List.Splits.{slice_split_first, slice_split_none}
use Rattle.std.proofs.lemmas.List.Sums.{fails_before_first}

some_of : (t : Bool) (n i : ℕ) → cond t (Some n) None ≡ Some i → (t ≡ true) × (n ≡ i)
some_of true n i e = (refl, cc)
some_of false n i e = cc

none_of : (t : Bool) (n : ℕ) → cond t (Some n) None ≡ None → t ≡ false
none_of true n e = cc
none_of false n e = refl

pub cut_at : (p : ℕ → Bool) (xs : List ℕ) (i : ℕ) → position p xs ≡ Some i →
    slice_split p xs ≡ take i xs ∷ slice_split p (take (length xs - (i + 1)) (drop (i + 1) xs))
cut_at p xs i e =
    let f = some_of (nat_lt (position_or_len p xs) (length xs)) (position_or_len p xs) i e in
    let below : position_or_len p xs < length xs = ltb-true _ _ f.0 in
    let rest : take (length xs - (i + 1)) (drop (i + 1) xs) ≡ drop (i + 1) xs = take_all _ _ (rw length-drop (omega arith)) in
    rw rest (rw (← f.1) (slice_split_first p xs 0 below))

pub cut_nowhere : (p : ℕ → Bool) (xs : List ℕ) → position p xs ≡ None → slice_split p xs ≡ xs ∷ []
cut_nowhere p xs e =
    let f = none_of (nat_lt (position_or_len p xs) (length xs)) (position_or_len p xs) e in
    let above : length xs ≤ position_or_len p xs = grind (arith, nat_tests) in
    slice_split_none p xs (λ k d within. fails_before_first p xs k d (omega arith))
