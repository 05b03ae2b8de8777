-- The interrupt that is dispatched is the lowest, by computing all 31 cases.
use Rattle.std.proofs.Common.{◌≡◌, ℕ, ◌<◌, Bool, true, nat_eq, nat_lt, refl, sym, ap, ◌∙◌, arith, eqb-true}
use Rattle.std.specs.Prelude.{◌&&◌, if◌then◌else◌}
use Rattle.std.specs.Int.{bit_at}
use Rattle.std.proofs.lemmas.Bool.{agree_below, agree_below_at, and_parts, lt-ltb, ltb-true}
use Rattle.sm83_processor.specs.Steps.{lowest_interrupt, IsLowestBit}

-- no bit below k is set
abbrev are_clear : ℕ → ℕ → Bool
are_clear n k = agree_below (λ j. if nat_lt j k then nat_eq (bit_at n j) 0 else true) (λ _. true) 5

abbrev is_lowest : ℕ → Bool
is_lowest n = nat_lt (lowest_interrupt n) 5 && (nat_eq (bit_at n (lowest_interrupt n)) 1 && are_clear n (lowest_interrupt n))

all_lowest : agree_below (λ n. if nat_lt 0 n then is_lowest n else true) (λ _. true) 32 ≡ true
all_lowest = refl

taken : (t : Bool) (b : Bool) → t ≡ true → (if t then b else true) ≡ true → b ≡ true
taken t b is e = ap (λ (v : Bool). if v then b else true) (sym is) ∙ e

pub lowest_is_lowest : (n : ℕ) → 0 < n → n < 32 → IsLowestBit n (lowest_interrupt n)
lowest_is_lowest n some few =
    let whole = taken (nat_lt 0 n) (is_lowest n) (lt-ltb 0 n some) (agree_below_at (λ n. if nat_lt 0 n then is_lowest n else true) (λ _. true) 32 n all_lowest few) in
    let parts = and_parts _ _ whole in
    let rest = and_parts _ _ parts.1 in
    let k = lowest_interrupt n in
    record {
      set = eqb-true _ _ rest.0;
      first = λ j below. (let last = ltb-true k 5 parts.0 in let small : j < 5 = omega (arith, below, last) in eqb-true _ _ (taken (nat_lt j k) (nat_eq (bit_at n j) 0) (lt-ltb j k below) (agree_below_at (λ j. if nat_lt j k then nat_eq (bit_at n j) 0 else true) (λ _. true) 5 j rest.1 small)));
    }
