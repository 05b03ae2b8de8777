-- Operations on the bits of a byte (Pan Docs, 'CPU Instruction Set': rotate, shift and bit instructions).
use Rattle.std.specs.Prelude.{ℕ, Bool, true, false, not, ◌+◌, ◌-◌, ◌*◌, ◌%◌, ◌/◌, ◌^◌, ◌==◌}
use Rattle.std.specs.Int.{bit_at}
use Rattle.sm83_alu.specs.declared.register_file.Flags.{Flags}
use Rattle.sm83_alu.specs.declared.register_file.Outcome.{Outcome}
use Rattle.sm83_alu.specs.Flags.{digit_of}

-- a value with Z from it, N clear, and H and C as given
abbrev pub outcome_of : ℕ → Bool → Bool → Outcome
outcome_of n h c = record { value = n; flags = record { zero = n == 0; subtract = false; half_carry = h; carry = c } }

-- RLC and RRC rotate eight bits; C is the bit moved out
abbrev pub rotated_left : ℕ → Outcome
rotated_left n = outcome_of (n * 2 % 256 + n / 128) false (n / 128 == 1)

abbrev pub rotated_right : ℕ → Outcome
rotated_right n = outcome_of (n / 2 + n % 2 * 128) false (n % 2 == 1)

-- RL and RR rotate through the carry c
abbrev pub rotated_left_through : ℕ → Bool → Outcome
rotated_left_through n c = outcome_of (n * 2 % 256 + digit_of c) false (n / 128 == 1)

abbrev pub rotated_right_through : ℕ → Bool → Outcome
rotated_right_through n c = outcome_of (n / 2 + digit_of c * 128) false (n % 2 == 1)

-- SLA and SRL move in 0; SRA keeps bit 7
abbrev pub shifted_left_arithmetic : ℕ → Outcome
shifted_left_arithmetic n = outcome_of (n * 2 % 256) false (n / 128 == 1)

abbrev pub shifted_right_logical : ℕ → Outcome
shifted_right_logical n = outcome_of (n / 2) false (n % 2 == 1)

abbrev pub shifted_right_arithmetic : ℕ → Outcome
shifted_right_arithmetic n = outcome_of (n / 2 + n / 128 * 128) false (n % 2 == 1)

-- SWAP exchanges the nibbles
abbrev pub swapped_nibbles : ℕ → Outcome
swapped_nibbles n = outcome_of (n % 16 * 16 + n / 16) false false

-- RLCA, RRCA, RLA and RRA are the rotations with Z clear
abbrev pub with_zero_clear : Outcome → Outcome
with_zero_clear o = record o { flags = record o.flags { zero = false } }

-- CPL: every bit flipped; N and H are set, Z and C kept
abbrev pub complement_of : ℕ → Flags → Outcome
complement_of n f = record { value = 255 - n; flags = record f { subtract = true; half_carry = true } }

-- SCF and CCF: C set, and flipped; N and H are cleared, Z is kept
abbrev pub with_carry_set : Flags → Flags
with_carry_set f = record f { subtract = false; half_carry = false; carry = true }

abbrev pub with_carry_flipped : Flags → Flags
with_carry_flipped f = record f { subtract = false; half_carry = false; carry = not f.carry }

-- BIT: Z tells that the bit is 0; C is kept
abbrev pub tested_bit : ℕ → ℕ → Flags → Flags
tested_bit i n f = record { zero = bit_at n i == 0; subtract = false; half_carry = true; carry = f.carry }

-- RES and SET: the number with the bit 0, and 1
abbrev pub without_bit : ℕ → ℕ → ℕ
without_bit i n = n - bit_at n i * 2 ^ i

abbrev pub with_bit : ℕ → ℕ → ℕ
with_bit i n = n + (1 - bit_at n i) * 2 ^ i
