-- What one line, and what two lines say.
use Rattle.std.proofs.Common.{◌≡◌, ℕ, ◌*◌, ◌≤◌, max, [], ◌∷◌, Bool, true, false, cond, ◌||◌, nat_le, le-leb, arith}
use Rattle.cartridge_clock.specs.declared.until.Line.{Line}
use Rattle.cartridge_clock.specs.Lines.{until_by}

one_is : (b : Bool) (u : ℕ) → cond (false || b) (cond b (max 0 u) 0) (max 0 u) ≡ u
one_is true u = omega arith
one_is false u = omega arith

pub one_until : (line : Line) (n : ℕ) → until_by (line ∷ []) n ≡ line.until
one_until line n = one_is (nat_le line.count n) line.until

abbrev of_both : (a b : Bool) (u v : ℕ) → ℕ
of_both a b u v = cond ((false || a) || b) (cond b (max (cond a (max 0 u) 0) v) (cond a (max 0 u) 0)) (max (max 0 u) v)

both_least : (a b : Bool) (u v r : ℕ) → r ≤ u → r ≤ v → r ≤ of_both a b u v
both_least true true u v r x y = omega arith
both_least true false u v r x y = omega arith
both_least false true u v r x y = omega arith
both_least false false u v r x y = omega arith

pub both_until : (line before : Line) (n r : ℕ) → r ≤ line.until → r ≤ before.until → r ≤ until_by (line ∷ before ∷ []) n
both_until line before n r = both_least (nat_le line.count n) (nat_le before.count n) line.until before.until r

both_most : (a b : Bool) (u v s : ℕ) → u * 1000 ≤ s → v * 1000 ≤ s → of_both a b u v * 1000 ≤ s
both_most true true u v s x y = omega arith
both_most true false u v s x y = omega arith
both_most false true u v s x y = omega arith
both_most false false u v s x y = omega arith

pub both_known : (line before : Line) (n s : ℕ) → line.until * 1000 ≤ s → before.until * 1000 ≤ s → until_by (line ∷ before ∷ []) n * 1000 ≤ s
both_known line before n s = both_most (nat_le line.count n) (nat_le before.count n) line.until before.until s

both_first : (a b : Bool) (u v : ℕ) → a ≡ true → u ≤ of_both a b u v
both_first true true u v e = omega arith
both_first true false u v e = omega arith
both_first false b u v e = absurd (cc)

pub both_claim : (line before : Line) (n : ℕ) → line.count ≤ n → line.until ≤ until_by (line ∷ before ∷ []) n
both_claim line before n h = both_first (nat_le line.count n) (nat_le before.count n) line.until before.until (le-leb line.count n h)

exact : (a b : Bool) (u v : ℕ) → b ≡ true → v ≤ u → of_both a b u v ≡ cond a u v
exact true true u v e h = omega arith
exact false true u v e h = omega arith
exact a false u v e h = absurd (cc)

-- where the line before speaks of SAVE, too
pub both_exact : (line before : Line) (n : ℕ) → before.count ≤ n → before.until ≤ line.until → until_by (line ∷ before ∷ []) n ≡ cond (nat_le line.count n) line.until before.until
both_exact line before n h k = exact (nat_le line.count n) (nat_le before.count n) line.until before.until (le-leb before.count n h) k
