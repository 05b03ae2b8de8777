-- Equations over bytes, by computing both sides at each of the 256 bytes.
use Rattle.std.proofs.Common.{◌≡◌, ℕ, ◌+◌, ◌<◌, Bool, true, nat_eq, refl, sym, ap, ◌∙◌, arith}
use Rattle.std.specs.Prelude.{bit_and, bit_or}
use Rattle.std.proofs.lemmas.Bool.{agree_below, agree_below_at, eqb-true}
use Rattle.timer_unit.specs.Serial.{sc_bits}

abbrev all_bytes : (ℕ → Bool) → Bool
all_bytes test = agree_below test (λ _. true) 256

bytes_at : (f g : ℕ → ℕ) → all_bytes (λ k. nat_eq (f k) (g k)) ≡ true → (n : ℕ) → n < 256 → f n ≡ g n
bytes_at f g table n below = eqb-true _ _ (agree_below_at (λ k. nat_eq (f k) (g k)) (λ _. true) 256 n table below)

-- bits 7 and 0 by a mask
pub sc_bits_by_mask : (n : ℕ) → n < 256 → bit_and n 129 ≡ sc_bits n
sc_bits_by_mask n below = bytes_at (λ k. bit_and k 129) sc_bits refl n below

-- bits 6 to 1 set beside them
unused_bits_set : (n : ℕ) → n < 256 → bit_or 126 (sc_bits n) ≡ 126 + sc_bits n
unused_bits_set n below = bytes_at (λ k. bit_or 126 (sc_bits k)) (λ k. 126 + sc_bits k) refl n below

pub unused_bits_of_legal : (n : ℕ) → sc_bits n ≡ n → bit_or 126 n ≡ 126 + n
unused_bits_of_legal n e =
    let below : n < 256 = omega arith in
    ap (λ (k : ℕ). bit_or 126 k) (sym e) ∙ unused_bits_set n below ∙ ap (λ (k : ℕ). 126 + k) e
