-- Hexadecimal digits are text.
use Rattle.std.proofs.Common.{List, ℕ, Bool, [], ◌∷◌, ◌≡◌, ◌&&◌, true, false, nat_lt, refl, arith}
use Rattle.std.specs.Prelude.{Result, Ok, Err}
use Rattle.std.specs.List.{list_all}
use Rattle.std.specs.Result.{IsOk, OnOk}
use Rattle.std.specs.Str.{IsAscii, IsUtf8}
use Rattle.std.proofs.lemmas.Bool.Decides.{nat_tests}
use Rattle.std.proofs.lemmas.Str.{IsUtf8-from_ascii}
use Rattle.std.proofs.lemmas.Str.Ascii.{IsAscii-nil, IsAscii-cons}
use Rattle.hex.specs.Hex.{encode_lower, lower_digits}
use Rattle.hex.proofs.HexLemmas.{IsAscii-encode_with}

-- what a result holds that is known to be `Ok`
pub known : {T E P : Type 0} (r : Result T E) → IsOk r → OnOk r P → P
known (Ok x) ok p = p
known (Err e) ok p = cc

ascii : (xs : List ℕ) → list_all (λ x. nat_lt x 128) xs ≡ true → IsAscii xs
ascii [] e = IsAscii-nil
ascii (x ∷ xs) e = go (nat_lt x 128) refl e (ascii xs)
  where
    go : (b : Bool) → nat_lt x 128 ≡ b → (b && list_all (λ y. nat_lt y 128) xs) ≡ true → (list_all (λ y. nat_lt y 128) xs ≡ true → IsAscii xs) → IsAscii (x ∷ xs)
    go true small rest below = IsAscii-cons x xs (grind (small, arith, nat_tests)) (below rest)
    go false small rest below = cc

pub digits_are_text : (bytes : List ℕ) → IsUtf8 (encode_lower bytes)
digits_are_text bytes = IsUtf8-from_ascii (encode_lower bytes) (IsAscii-encode_with lower_digits bytes (ascii lower_digits refl))
