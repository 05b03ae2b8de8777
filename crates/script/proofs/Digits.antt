-- Ten decimal digits write a number below 10,000,000,000.
use Rattle.std.proofs.Common.{◌≡◌, ℕ, ◌^◌, ◌<◌, ◌≤◌, Bool, true, false, List, [], ◌∷◌, length, None, Some, if◌then◌else◌, arith, refl, lit<, ◌&&◌}
use Rattle.std.proofs.Math.Nat.{pow-le-pow_right}
use Rattle.std.specs.Char.{is_digit}
use Rattle.std.specs.List.{list_all}
use Rattle.std.specs.Str.Parse.{AllDigits, digits_value}
use Rattle.std.proofs.lemmas.Bool.{ltb-true}
use Rattle.std.proofs.lemmas.Int.Digits.{digits_value-lt}

both : (a b : Bool) → (a && b) ≡ true → (a ≡ true) × (b ≡ true)
both true true e = (refl, refl)
both true false e = cc
both false b e = cc

all_digits : (ds : List ℕ) → list_all (λ byte. is_digit byte 10) ds ≡ true → AllDigits 10 ds
all_digits [] e = tt
all_digits (d ∷ ds) e =
    let f = both (is_digit d 10) (list_all (λ byte. is_digit byte 10) ds) e in
    (ltb-true _ _ f.0, all_digits ds f.1)

pub ten_digits : (ds : List ℕ) → list_all (λ byte. is_digit byte 10) ds ≡ true → length ds ≤ 10 → digits_value 10 ds < 10000000000
ten_digits ds e short =
    let low = digits_value-lt 10 ds (all_digits ds e) in
    let more : 10 ^ length ds ≤ 10 ^ 10 = pow-le-pow_right (lit< tt) short in
    let most : 10 ^ 10 ≡ 10000000000 = refl in
    omega (arith, low, more, most)

-- a byte that was read as a digit
pub digit_read : (t : Bool) (value digit : ℕ) → Some digit ≡ (if t then Some value else None) → (t ≡ true) × (digit ≡ value)
digit_read true value digit e = (refl, cc)
digit_read false value digit e = cc
