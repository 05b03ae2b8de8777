-- One to four hexadecimal digits write a number below 65,536, so a text that can't be read as one is no address.
use Rattle.std.proofs.Common.{◌≡◌, ℕ, ◌+◌, ◌*◌, ◌^◌, ◌<◌, ◌≤◌, List, [], ◌∷◌, length, false, Err, arith}
use Rattle.std.specs.Prelude.{◌==◌, slice_index}
use Rattle.std.specs.Str.Parse.{AllDigits, ParsesUnsigned, digits_value}
use Rattle.gbkeep.specs.Request.{IsAddress}

four_digits : (a b c d : ℕ) → a < 16 → b < 16 → c < 16 → d < 16 → (((0 * 16 + a) * 16 + b) * 16 + c) * 16 + d < 2 ^ 16
four_digits a b c d la lb lc ld = omega arith

three_digits : (a b c : ℕ) → a < 16 → b < 16 → c < 16 → ((0 * 16 + a) * 16 + b) * 16 + c < 2 ^ 16
three_digits a b c la lb lc = omega arith

two_digits : (a b : ℕ) → a < 16 → b < 16 → (0 * 16 + a) * 16 + b < 2 ^ 16
two_digits a b la lb = omega arith

one_digit : (a : ℕ) → a < 16 → 0 * 16 + a < 2 ^ 16
one_digit a la = omega arith

fits : (bs : List ℕ) → length bs ≤ 4 → AllDigits 16 bs → digits_value 16 bs < 2 ^ 16
fits [] le all = omega arith
fits (a ∷ []) le all = one_digit _ all.0
fits (a ∷ b ∷ []) le all = two_digits _ _ all.0 all.1.0
fits (a ∷ b ∷ c ∷ []) le all = three_digits _ _ _ all.0 all.1.0 all.1.1.0
fits (a ∷ b ∷ c ∷ d ∷ []) le all = four_digits _ _ _ _ all.0 all.1.0 all.1.1.0 all.1.1.1.0
fits (a ∷ b ∷ c ∷ d ∷ e ∷ bs) le all = absurd (omega arith)

pub unread_is_no_address : {E : Type 0} (bs : List ℕ) (e : E) → length bs ≤ 4 → (slice_index bs 0 == 43) ≡ false → ParsesUnsigned 16 16 bs (Err e) → IsAddress bs → ⊥
unread_is_no_address bs e le plain unread address = let refused = rw plain at unread in refused (address.1, fits bs le address.1.1)
