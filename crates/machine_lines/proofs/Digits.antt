-- Hexadecimal digits.
use Rattle.std.proofs.Common.{◌≡◌, ℕ, ◌^◌, ◌<◌, ◌≤◌, ◌&&◌, Bool, true, false, List, [], ◌∷◌, length, None, Some, refl, if◌then◌else◌, arith, lit<}
use Rattle.std.proofs.Math.Nat.{pow-le-pow_right}
use Rattle.std.specs.Char.{is_digit}
use Rattle.std.specs.List.{list_all}
use Rattle.std.specs.Str.Parse.{AllDigits, digits_value}
use Rattle.std.proofs.lemmas.Bool.{ltb-true}
use Rattle.std.proofs.lemmas.Int.Digits.{digits_value-lt}

conjuncts : (a b : Bool) → (a && b) ≡ true → (a ≡ true) × (b ≡ true)
conjuncts true true e = (refl, refl)
conjuncts true false e = cc
conjuncts false b e = cc

all_digits : (ds : List ℕ) → list_all (λ byte. is_digit byte 16) ds ≡ true → AllDigits 16 ds
all_digits [] e = tt
all_digits (d ∷ ds) e =
    let f = conjuncts (is_digit d 16) (list_all (λ byte. is_digit byte 16) ds) e in
    (ltb-true _ _ f.0, all_digits ds f.1)

pub few_digits : (most : ℕ) (ds : List ℕ) → list_all (λ byte. is_digit byte 16) ds ≡ true → length ds ≤ most → digits_value 16 ds < 16 ^ most
few_digits most ds e short =
    let low = digits_value-lt 16 ds (all_digits ds e) in
    let more : 16 ^ length ds ≤ 16 ^ most = pow-le-pow_right (lit< tt) short in
    omega (arith, low, more)

pub three_digits : (ds : List ℕ) → list_all (λ byte. is_digit byte 16) ds ≡ true → length ds ≤ 3 → digits_value 16 ds < 4096
three_digits ds e short =
    let below = few_digits 3 ds e short in
    let most : 16 ^ 3 ≡ 4096 = refl in
    omega (arith, below, most)

pub digit_read : (t : Bool) (value digit : ℕ) → Some digit ≡ (if t then Some value else None) → (t ≡ true) × (digit ≡ value)
digit_read true value digit e = (refl, cc)
digit_read false value digit e = cc
