-- What DAA is for: decimal sums and differences of numbers below 100, two digits a byte (Pan Docs, 'DAA').
use Rattle.std.specs.Prelude.{◌≡◌, ℕ, Bool, ◌+◌, ◌-◌, ◌*◌, ◌/◌, ◌%◌, ◌<◌, nat_le, nat_lt}
use Rattle.sm83_alu.specs.declared.register_file.Outcome.{Outcome}
use Rattle.sm83_alu.specs.Flags.{digit_of}
use Rattle.sm83_alu.specs.Arithmetic.{sum_of, difference_of, decimal_of}

-- a number below 100 as two decimal digits of four bits
abbrev pub decimal_digits : ℕ → ℕ
decimal_digits n = 16 * (n / 10) + n % 10

-- A and the flags after ADC or SBC of decimal digits, then DAA
abbrev pub adjusted_sum : ℕ → ℕ → Bool → Outcome
adjusted_sum m n c = let o = sum_of (decimal_digits m) (decimal_digits n) (digit_of c) in decimal_of o.value o.flags

abbrev pub adjusted_difference : ℕ → ℕ → Bool → Outcome
adjusted_difference m n c = let o = difference_of (decimal_digits m) (decimal_digits n) (digit_of c) in decimal_of o.value o.flags

-- DAA after a sum gives the digits of the decimal sum modulo 100, and C tells that it is 100 or more
abbrev pub AdjustsSums : Type 0
AdjustsSums = (m n : ℕ) (c : Bool) → m < 100 → n < 100 →
    ((adjusted_sum m n c).value ≡ decimal_digits ((m + n + digit_of c) % 100))
    × ((adjusted_sum m n c).flags.carry ≡ nat_le 100 (m + n + digit_of c))

-- DAA after a difference gives the digits of the decimal difference modulo 100, and C tells that it is below 0
abbrev pub AdjustsDifferences : Type 0
AdjustsDifferences = (m n : ℕ) (c : Bool) → m < 100 → n < 100 →
    ((adjusted_difference m n c).value ≡ decimal_digits ((m + 100 - (n + digit_of c)) % 100))
    × ((adjusted_difference m n c).flags.carry ≡ nat_lt m (n + digit_of c))
